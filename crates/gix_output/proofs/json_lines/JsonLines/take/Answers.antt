use Rattle.std.proofs.Common.{◌≡◌, ◌≢◌, ◌+◌, ◌-◌, ◌<◌, ◌≤◌, ◌==◌, ℕ, suc, List, [], ◌∷◌, ◌++◌, true, length, length-drop, length-take, take, take_all, drop, drop-cons, get_or, get_or-take, append_assoc, subst, refl, sym, ap, ◌∙◌, arith}
use Rattle.std.proofs.KnownBytes.{Appends-nil, Appends-trans}
use Rattle.std.proofs.lemmas.Bool.{eq-eqb, eqb-true}
use Rattle.std.proofs.lemmas.List.{take-append-drop}
use Rattle.std.proofs.lemmas.List.Elements.{All-from_get_or}
use Rattle.std.proofs.lemmas.Result.{IfOk-weaker}
use Rattle.std.specs.Io.KnownBytes.{Appends}
use Rattle.gix_output.specs.Json.{json_of}
use Rattle.gix_output.specs.Lines.{WritesMore}
use Rattle.gix_output.proofs.Written.{Without, nothing_yet, line_ends, rest_kept}
use Rattle.gix_output.proofs.json_lines.JsonLines.take.Goals as goal

pub loop-len-init : goal.loop-len-init
loop-len-init g c = ([], [], refl, Appends-nil _, nothing_yet c.args.self.now)

-- what is before the byte, the byte, and what is behind it
split_here : (bytes : List ℕ) (n end : ℕ) → n < length bytes → (get_or bytes n 0 == end) ≡ true
    → (take n bytes ++ end ∷ []) ++ take (length bytes - (n + 1)) (drop (n + 1) bytes) ≡ bytes
split_here bytes n end l is =
    append_assoc (take n bytes) (end ∷ []) _
    ∙ ap (λ s. take n bytes ++ end ∷ s) (take_all (length bytes - (n + 1)) (drop (n + 1) bytes) (omega (arith, length-drop (n + 1) bytes)))
    ∙ ap (λ b. take n bytes ++ b ∷ drop (n + 1) bytes) (sym (eqb-true (get_or bytes n 0) end is))
    ∙ ap (λ s. take n bytes ++ s) (sym (drop-cons bytes n 0 l ∙ ap (λ k. get_or bytes n 0 ∷ drop k bytes) {x = suc n} {y = n + 1} (omega arith)))
    ∙ take-append-drop n bytes

-- no byte of the first so many ends a line
front_without : (bytes : List ℕ) (n end : ℕ) → n ≤ length bytes → ((k : ℕ) → k < n → (get_or bytes k 0 == end) ≡ true → ⊥) → Without end (take n bytes)
front_without bytes n end up never =
    All-from_get_or (λ b. b ≢ end) (take n bytes) 0
    (λ k l e. never k (omega (arith, l, length-take n bytes)) (eq-eqb (get_or bytes k 0) end (sym (get_or-take n bytes k 0 (omega (arith, l, length-take n bytes))) ∙ e)))

pub loop-len-preserved : goal.loop-len-preserved
loop-len-preserved g c =
    let found = c.in-Some.ensures in
    let old = c.loop-len.self in
    let left = c.loop-len.left.now in
    let part = take c.in-Some.len left in
    let (front, more, whole, appended, so_far) = c.loop-len.invariant in
    let text = json_of old.shape (old.line.items ++ part) ++ 10 ∷ [] in
    let stays = c.in_ok-end_line.ensures.of in
    let within = front_without left c.in-Some.len old.end (omega (arith, found.0.high)) (λ k l. found.0.before k (omega arith) l) in (
      front ++ (part ++ old.end ∷ []),
      more ++ text,
      append_assoc front (part ++ old.end ∷ []) _ ∙ ap (λ s. front ++ s) (split_here left c.in-Some.len old.end found.0.high found.1) ∙ whole,
      Appends-trans _ _ _ more text appended c.in_ok-end_line.ensures.written,
      line_ends c.args.self.now old c.end_line.new.self stays.0 stays.1 front more part so_far within c.in_ok-end_line.ensures.reads_back c.in_ok-end_line.ensures.line,
    )

pub returns : goal.returns
returns g c =
    let old = c.loop-len.self in
    let left = c.loop-len.left.now in
    let (front, more, whole, appended, so_far) = c.loop-len.invariant in
    let within = subst (λ s. Without old.end s) (take_all (length left) left (omega arith))
    (front_without left (length left) old.end (omega arith) (λ k l. c.in_default.ensures k (omega arith) l)) in
    let stays = c.keep.ensures.of in
    IfOk-weaker c.keep.result _ _ (λ _ kept. (
      more,
      subst (λ w. Appends (g.W.Write.contents c.args.self.now.writer) (g.W.Write.contents w) more) (sym c.keep.ensures.writer) appended,
      subst (λ bytes. WritesMore c.args.self.now c.keep.new.self bytes more) whole
          (rest_kept c.args.self.now old c.keep.new.self stays.0 stays.1 front more left so_far within kept),
    )) c.keep.ensures.line
