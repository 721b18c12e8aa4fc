-- The line before a datagram.
use Rattle.std.proofs.Common.{◌≡◌, ◌∙◌, ℕ, List, [], ◌∷◌, ◌++◌, Option, ap, sym, append_assoc, append-nil}
use Rattle.std.specs.Prelude.{codes}
use Rattle.mold_frame.specs.Carried.{Datagram}
use Rattle.mold_pcap.specs.declared.time.FrameTime.{FrameTime}
use Rattle.mold_text.specs.Line.{joined, line_of}
use Rattle.mold_capture_commands.specs.Address.{endpoint_text}
use Rattle.mold_capture_commands.specs.Shown.{origin_line, time_text}

parts_are : (old first time from source to target end : List ℕ) →
    ((((old ++ first) ++ time) ++ (from ++ source)) ++ (to ++ target)) ++ end
    ≡ old ++ (first ++ (time ++ (from ++ (source ++ (to ++ (target ++ end))))))
parts_are old first time from source to target end = simp append_assoc

words_are : (first space time from source to target end : List ℕ) →
    (first ++ ((space ++ time) ++ ((space ++ from) ++ ((space ++ source) ++ ((space ++ to) ++ ((space ++ target) ++ []))))))
    ++ end
    ≡ first ++ (space ++ (time ++ (space ++ (from ++ (space ++ (source ++ (space ++ (to ++ (space ++ (target ++ end))))))))))
words_are first space time from source to target end = simp (append_assoc, append-nil)

line_is : (old time source target : List ℕ) →
    ((((old ++ codes "at ") ++ time) ++ (codes " from " ++ source)) ++ (codes " to " ++ target)) ++ codes "\n"
    ≡ old ++ line_of (codes "at" ∷ time ∷ codes "from" ∷ source ∷ codes "to" ∷ target ∷ [])
unfolding joined
line_is old time source target =
    parts_are old (codes "at ") time (codes " from ") source (codes " to ") target (codes "\n")
    ∙ ap (λ (t : List ℕ). old ++ t)
    (sym (words_are (codes "at") (codes " ") time (codes "from") source (codes "to") target (codes "\n")))

-- The line in its parts.
pub origin_is : (old a b c d e : List ℕ) (time : Option FrameTime) (datagram : Datagram) → a ≡ old ++ codes "at " →
    b ≡ a ++ time_text time → c ≡ b ++ (codes " from " ++ endpoint_text datagram.source datagram.source_port) →
    d ≡ c ++ (codes " to " ++ endpoint_text datagram.target datagram.target_port) → e ≡ d ++ codes "\n" →
    e ≡ old ++ origin_line time datagram
unfolding origin_line
origin_is old a b c d e time datagram first then from to last =
    let source = codes " from " ++ endpoint_text datagram.source datagram.source_port in
    let target = codes " to " ++ endpoint_text datagram.target datagram.target_port in
    last
    ∙ ap (λ (t : List ℕ). t ++ codes "\n") to
    ∙ ap (λ (t : List ℕ). (t ++ target) ++ codes "\n") from
    ∙ ap (λ (t : List ℕ). ((t ++ source) ++ target) ++ codes "\n") then
    ∙ ap (λ (t : List ℕ). (((t ++ time_text time) ++ source) ++ target) ++ codes "\n") first
    ∙ line_is old (time_text time) (endpoint_text datagram.source datagram.source_port)
    (endpoint_text datagram.target datagram.target_port)
