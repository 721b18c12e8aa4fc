-- The text of each code, with a zero byte at its end as `mold_terminated_text` returns it, and without as `mold_text`
-- does.
use Rattle.std.specs.Prelude.{ℕ, List, [], ◌∷◌, get_or}
use Rattle.std.specs.Ffi.{without_last}
use Rattle.mold_ffi.specs.declared.code.texts.TheConstants as text

-- The texts of the codes, from code 0 on.
abbrev pub texts : List (List ℕ)
texts =
    text.DONE.now ∷
    text.SHORT.now ∷
    text.BLOCK_CUT.now ∷
    text.TRAILING.now ∷
    text.LIMIT.now ∷
    text.FULL.now ∷
    text.BROKEN.now ∷
    text.MEMORY.now ∷
    text.WRONG_SESSION.now ∷
    text.SEQUENCE_ZERO.now ∷
    text.PAST_LAST.now ∷
    text.END_CONFLICT.now ∷
    text.END_BELOW.now ∷
    text.PAST_END.now ∷
    text.CONFLICT.now ∷
    text.LINE.now ∷
    text.NEXT_ZERO.now ∷
    text.WINDOW.now ∷
    text.ABSENT.now ∷
    text.CLOSED.now ∷
    text.TOO_LONG.now ∷
    text.NUMBERS.now ∷
    text.UNSENT.now ∷
    text.ROOM.now ∷
    text.REQUEST_LENGTH.now ∷
    text.EMPTY_REQUEST.now ∷
    text.AHEAD.now ∷
    text.BURST.now ∷
    text.FILE_SHORT.now ∷
    text.BAD_MAGIC.now ∷
    text.BAD_FLAG.now ∷
    text.FILE_CUT.now ∷
    text.COUNT_DIFFERS.now ∷
    text.DAMAGED.now ∷
    text.NOT_MISSING.now ∷
    text.BATCH.now ∷
    text.OPTIONS.now ∷
    text.TIME.now ∷
    []

-- The text for a number, with a zero byte at its end: that of the code with this number, or `unknown code` if there is no
-- such code.
abbrev pub terminated_text_of : ℕ → List ℕ
terminated_text_of code = get_or texts code text.UNKNOWN.now

-- The text for a number, without the zero byte.
abbrev pub text_of : ℕ → List ℕ
text_of code = without_last (terminated_text_of code)
