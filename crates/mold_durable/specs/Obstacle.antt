-- What is printed about a file that prevents the creation of a journal.
use Rattle.std.specs.Prelude.{ℕ, List, [], codes}
use Rattle.mold_durable.specs.declared.obstacle.Obstacle.{Obstacle}
use Rattle.mold_durable.specs.declared.obstacle.Obstacle.TheVariants.{Link, LinkToNothing, NotOpened, NotRegular}
use Rattle.mold_durable.specs.declared.obstacle.Obstacle.TheVariants.{OtherFile}

-- What follows the journal's name in the name of the file: only the link to nothing is the journal itself.
abbrev pub obstacle_suffix : Obstacle → List ℕ
obstacle_suffix LinkToNothing = []
obstacle_suffix Link = codes ".new"
obstacle_suffix NotRegular = codes ".new"
obstacle_suffix NotOpened = codes ".new"
obstacle_suffix OtherFile = codes ".new"

-- The reason for users.
abbrev pub reason_of : Obstacle → List ℕ
reason_of LinkToNothing = codes "it is a symbolic link to a file that does not exist"
reason_of Link = codes "it is a symbolic link"
reason_of NotRegular = codes "it is not a regular file"
reason_of NotOpened = codes "it can't be opened for reading and writing"
reason_of OtherFile = codes "it is not an unfinished journal"
