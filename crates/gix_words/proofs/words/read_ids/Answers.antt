use Rattle.std.proofs.Common.{◌≡◌, ◌≢◌, nat_lt, ℕ, ◌+◌, ◌-◌, ◌<◌, List, [], ◌∷◌, ◌++◌, length, map, take, drop, Bool, true, false, if◌then◌else◌, Result, Ok, Err, string_bytes, Vec, Global, add-one, arith, rules, refl, sym, ap, subst}
use Rattle.std.proofs.Common.{◌∙◌, append_assoc, get_or, drop-cons, take_all}
use Rattle.gix_hash.specs.declared.HexError.{HexError}
use Rattle.gix_hash.specs.declared.ObjectId.{ObjectId}
use Rattle.gix_hash.specs.Id.{id_from_hex}
use Rattle.gix_words.specs.declared.fault.Fault.{Fault}
use Rattle.gix_words.specs.Words.{Ids, begins_with_caret, ids_from, with_word}
use Rattle.gix_words.proofs.words.read_ids.Invariants.{behind}
use Rattle.gix_words.proofs.words.read_ids.Goals as goal
use Rattle.gix_words.proofs.words.read_ids.Goals.{in-94+in_ok-add_id-in-94, in_default+in_ok-add_id-in_default, in_default-via-then-as_bytes-lt1, in_default-via-else-as_bytes-lt1+in_default-1}

abbrev ok_ids : Ids → Result Ids Fault
ok_ids ids = Ok ids

hidden_added : (n : ℕ) (tips hidden : List ObjectId) (i : ObjectId) (rest : Result Ids Fault) → behind (tips, hidden ++ i ∷ []) rest ≡ behind (tips, hidden) (with_word true n (Ok i) rest)
hidden_added n tips hidden i (Ok ids) = ap (λ (those : List ObjectId). ok_ids (tips ++ ids.0, those)) (append_assoc hidden (i ∷ []) ids.1)
hidden_added n tips hidden i (Err e) = refl

tip_added : (n : ℕ) (tips hidden : List ObjectId) (i : ObjectId) (rest : Result Ids Fault) → behind (tips ++ i ∷ [], hidden) rest ≡ behind (tips, hidden) (with_word false n (Ok i) rest)
tip_added n tips hidden i (Ok ids) = ap (λ (those : List ObjectId). ok_ids (those, hidden ++ ids.1)) (append_assoc tips (i ∷ []) ids.0)
tip_added n tips hidden i (Err e) = refl

-- the id of a word was added to the hidden ones, or to the tips
module _ (tips hidden : List ObjectId) (id : ObjectId) (n : ℕ) (rest : List (List ℕ)) where
  caret_word : (bytes : List ℕ) → get_or bytes 0 0 ≡ 94 → id_from_hex (take (length bytes - 1) (drop 1 bytes)) ≡ Ok id → behind (tips, hidden ++ id ∷ []) (ids_from (n + 1) rest) ≡ behind (tips, hidden) (ids_from n (bytes ∷ rest))
  caret_word [] e h = absurd (omega (arith, e))
  caret_word (b ∷ bs) e h =
      let digits : id_from_hex bs ≡ Ok id = ap id_from_hex (sym (take_all (length (b ∷ bs) - 1) bs (omega arith))) ∙ h in
      subst (λ (x : ℕ). behind (tips, hidden ++ id ∷ []) (ids_from (n + 1) rest) ≡ behind (tips, hidden) (ids_from n ((x ∷ bs) ∷ rest))) (sym e)
      (hidden_added n tips hidden id (ids_from (n + 1) rest) ∙ ap (λ (r : Result ObjectId HexError). behind (tips, hidden) (with_word true n r (ids_from (n + 1) rest))) (sym digits))

  plain_word : (bytes : List ℕ) → begins_with_caret bytes ≡ false → id_from_hex bytes ≡ Ok id → behind (tips ++ id ∷ [], hidden) (ids_from (n + 1) rest) ≡ behind (tips, hidden) (ids_from n (bytes ∷ rest))
  plain_word [] e h = tip_added n tips hidden id (ids_from (n + 1) rest) ∙ ap (λ (r : Result ObjectId HexError). behind (tips, hidden) (with_word false n r (ids_from (n + 1) rest))) (sym h)
  plain_word (b ∷ bs) e h =
      tip_added n tips hidden id (ids_from (n + 1) rest)
      ∙ ap (λ (r : Result ObjectId HexError). behind (tips, hidden) (with_word false n r (ids_from (n + 1) rest))) (sym h)
      ∙ ap (λ (t : Bool). behind (tips, hidden) (with_word t n (id_from_hex (if t then bs else b ∷ bs)) (ids_from (n + 1) rest))) (sym e)

short_plain : (bytes : List ℕ) → nat_lt (length bytes) 1 ≡ true → begins_with_caret bytes ≡ false
short_plain [] less = refl
short_plain (b ∷ bs) less = grind arith

other_plain : (bytes : List ℕ) → get_or bytes 0 0 ≢ 94 → begins_with_caret bytes ≡ false
other_plain [] other = refl
other_plain (b ∷ bs) other = grind arith

-- the words that are left are this one and those behind it
module _ {X : Type 0} (bytes_of : X → List ℕ) (words : List X) (n i : ℕ) (word : X) (within : i < length words) (is : word ≡ get_or words i word) (bytes : List ℕ) (same : bytes ≡ bytes_of word) where
  left : map bytes_of (drop i words) ≡ bytes ∷ map bytes_of (drop (i + 1) words)
  left = ap (map bytes_of) (drop-cons words i word within ∙ ap (λ (k : ℕ). get_or words i word ∷ drop k words) (sym (add-one i))) ∙ ap (λ (x : X). bytes_of x ∷ map bytes_of (drop (i + 1) words)) (sym is) ∙ ap (λ (bs : List ℕ). bs ∷ map bytes_of (drop (i + 1) words)) (sym same)

  module _ (tips hidden new_tips new_hidden those others : List ObjectId) (so : behind (tips, hidden) (ids_from (i + n) (map bytes_of (drop i words))) ≡ ids_from n (map bytes_of words)) (t : new_tips ≡ those) (h : new_hidden ≡ others) where
    next : behind (those, others) (ids_from (i + n + 1) (map bytes_of (drop (i + 1) words))) ≡ behind (tips, hidden) (ids_from (i + n) (bytes ∷ map bytes_of (drop (i + 1) words)))
        → behind (new_tips, new_hidden) (ids_from (i + 1 + n) (map bytes_of (drop (i + 1) words))) ≡ ids_from n (map bytes_of words)
    next more =
        let number : i + 1 + n ≡ i + n + 1 = omega arith in
        (λ k. behind (t k, h k) (ids_from (number k) (map bytes_of (drop (i + 1) words)))) ∙ more ∙ ap (λ (those : List (List ℕ)). behind (tips, hidden) (ids_from (i + n) those)) (sym left) ∙ so

pub loop-i-preserved : goal.loop-i-preserved
loop-i-preserved c =
    let words = c.args.words.now in
    let n = c.args.number in
    let i = c.loop-i.i in
    let bytes = c.as_bytes.result.now in
    let rest = map string_bytes (drop (i + 1) words) in
    let tips = c.loop-i.tips.items in
    let hidden = c.loop-i.hidden.items in
    elim c.if-as_bytes-lt1.branch [
      | in-94+in_ok-add_id-in-94 w ↦
          let k = w.in_ok-add_id-in-94.ensures in
          next string_bytes words n i c.index-words-i.result c.loop-i-test.true c.index-words-i.is bytes c.as_bytes.ensures.value tips hidden _ _ tips (hidden ++ k.0 ∷ []) c.loop-i.invariant
          (ap (λ (v : Vec ObjectId Global). v.items) w.tips-is) (ap (λ (v : Vec ObjectId Global). v.items) w.hidden-is ∙ k.2) (caret_word tips hidden k.0 (i + n) rest bytes (search rules) k.1)
      | in_default+in_ok-add_id-in_default w ↦
          let k = w.in_ok-add_id-in_default.ensures in
          let plain : begins_with_caret bytes ≡ false = elim w.in_default-1.branch [
            | in_default-via-then-as_bytes-lt1 w' ↦ short_plain bytes (search rules)
            | in_default-via-else-as_bytes-lt1+in_default-1 w' ↦ other_plain bytes (search rules)
          ] in
          next string_bytes words n i c.index-words-i.result c.loop-i-test.true c.index-words-i.is bytes c.as_bytes.ensures.value tips hidden _ _ (tips ++ k.0 ∷ []) hidden c.loop-i.invariant
          (ap (λ (v : Vec ObjectId Global). v.items) w.tips-is ∙ k.2) (ap (λ (v : Vec ObjectId Global). v.items) w.hidden-is) (plain_word tips hidden k.0 (i + n) rest bytes plain k.1)
    ]
