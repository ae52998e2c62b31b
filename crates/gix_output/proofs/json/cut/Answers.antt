use Rattle.std.proofs.Common.{◌≡◌, ◌+◌, ◌-◌, ◌<◌, ◌≤◌, ◌==◌, ℕ, List, Bool, true, false, length, length-drop, take, drop, take_all, get_or, refl, sym, ap, ◌∙◌, arith}
use Rattle.std.specs.List.{position_or_len}
use Rattle.std.proofs.lemmas.List.{drop_all}
use Rattle.std.proofs.lemmas.List.Sums.{position_or_len_is}
use Rattle.gix_output.proofs.json.cut.Goals as goal

other : (t : Bool) → (t ≡ true → ⊥) → t ≡ false
other true never = absurd (never refl)
other false never = refl

-- where the first such byte is, and the length where there is none
place : (byte : ℕ) (text : List ℕ) (n : ℕ) → n ≤ length text → ((k : ℕ) → k < n → (get_or text k 0 == byte) ≡ true → ⊥)
    → (n < length text → (get_or text n 0 == byte) ≡ true) → position_or_len (λ b. b == byte) text ≡ n
place byte text n up never at = position_or_len_is (λ b. b == byte) text n 0 up (λ k l. other _ (never k l)) at

pub returns-in-None-clause-front : goal.returns-in-None-clause-front
returns-in-None-clause-front c =
    let text = c.args.text.now in
    let end = place c.args.byte text (length text) (omega arith) (λ k l. c.in-None.ensures k (omega arith) l) (λ l. absurd (omega (arith, l))) in
    sym (ap (λ n. take n text) end ∙ take_all (length text) text (omega arith))

pub returns-in-None-clause-behind : goal.returns-in-None-clause-behind
returns-in-None-clause-behind c =
    let text = c.args.text.now in
    let end = place c.args.byte text (length text) (omega arith) (λ k l. c.in-None.ensures k (omega arith) l) (λ l. absurd (omega (arith, l))) in
    sym (ap (λ n. drop (n + 1) text) end ∙ drop_all (length text + 1) text (omega arith))

pub returns-in-Some-clause-front : goal.returns-in-Some-clause-front
returns-in-Some-clause-front c =
    let found = c.in-Some.ensures in
    let end = place c.args.byte c.args.text.now c.in-Some.end (omega (arith, found.0.high)) (λ k l. found.0.before k (omega arith) l) (λ _. found.1) in
    sym (ap (λ n. take n c.args.text.now) end)

pub returns-in-Some-clause-behind : goal.returns-in-Some-clause-behind
returns-in-Some-clause-behind c =
    let text = c.args.text.now in
    let found = c.in-Some.ensures in
    let end = place c.args.byte text c.in-Some.end (omega (arith, found.0.high)) (λ k l. found.0.before k (omega arith) l) (λ _. found.1) in
    take_all (length text - (c.in-Some.end + 1)) (drop (c.in-Some.end + 1) text) (omega (arith, length-drop (c.in-Some.end + 1) text))
    ∙ sym (ap (λ n. drop (n + 1) text) end)
