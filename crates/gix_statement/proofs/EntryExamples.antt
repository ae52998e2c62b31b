-- From bytes to bytes: the entries of a tree, up to a limit.
use Rattle.std.proofs.Common.{◌≡◌, ◌≢◌, ◌⊎◌, ℕ, List, [], ◌∷◌, ◌++◌, replicate, Bool, true, false, Some, None, Ok, All, codes, cond, flat_map, refl, ap, ◌∙◌, sym, subst, arith, inl, inr}
use Rattle.std.proofs.lemmas.Bool.{false≢true}
use Rattle.std.proofs.lemmas.List.Elements.{All-cons, All-nil}
use Rattle.std.specs.Fmt.{digits}
use Rattle.hex.proofs.OnLiterals.{hex_on_literals}
use Rattle.gix_hash.proofs.Ids.Membership.{no_member, same_from, same_is}
use Rattle.gix_hash.specs.declared.ObjectId.{ObjectId}
use Rattle.gix_hash.specs.Id.{is_same}
use Rattle.gix_statement.specs.WholeStatement.{AreFed, Entry, IsLast, IsNumber, IsTree, Object, Objects, Promises, Unfolds, allowed, entry_line, files, other, whole}
use Rattle.gix_statement.proofs.Tests.{all_digits, not_among}
use Rattle.gix_statement.proofs.RunExamples.{child, root, spelled}

-- a tree of two files
abbrev text : List ℕ
text = codes "100644 a" ++ 0 ∷ (replicate 20 0x11 ++ (codes "100755 b" ++ 0 ∷ replicate 20 0x22))

abbrev input : List ℕ
input = codes "tree 2222222222222222222222222222222222222222 58\n" ++ text ++ 10 ∷ []

abbrev a_file : Entry
a_file = record { mode = 0o100644; name = codes "a"; id = root }

abbrev b_file : Entry
b_file = record { mode = 0o100755; name = codes "b"; id = child }

abbrev held : Object
held = record { kind = codes "tree"; bytes = text }

abbrev read_in : Objects
read_in i = cond (is_same child i) (Some held) None

are_last : (i : ObjectId) → IsLast ((child, held) ∷ []) i (read_in i)
are_last i = go (is_same child i) refl
  where
    go : (c : Bool) → is_same child i ≡ c → IsLast ((child, held) ∷ []) i (cond c (Some held) None)
    go true e = subst (λ j. IsLast ((child, held) ∷ []) j (Some held)) (same_is child i e) ([], [], refl, λ o. no_member _)
    go false e = λ o. not_among (i, o) (child, held) [] (λ s. false≢true (sym e ∙ same_from child i (ap (λ p. p.0) s))) (no_member _)

fed : AreFed (Some input) read_in
fed = (
  input,
  inr refl,
  (child, held) ∷ [],
  (codes "2222222222222222222222222222222222222222", codes "58", [], (0, omega arith, refl), spelled, (omega arith, omega arith, all_digits 10 (codes "58") refl, refl), refl, refl),
  are_last,
)

plain_name : (b : ℕ) → b ≢ 0 → b ≢ 47 → All (λ c. (c ≢ 0) × (c ≢ 47)) (b ∷ [])
plain_name b some plain = All-cons (λ c. (c ≢ 0) × (c ≢ 47)) b [] (some, plain) (All-nil _)

is_tree : IsTree read_in child (a_file ∷ b_file ∷ [])
is_tree = (
  text,
  refl,
  (
    codes "100644",
    codes "100755 b" ++ 0 ∷ replicate 20 0x22,
    (omega arith, omega arith, all_digits 8 (codes "100644") refl, refl),
    (λ e. cc),
    plain_name 97 (λ e. omega (arith, e)) (λ e. omega (arith, e)),
    refl,
    refl,
    (
      codes "100755",
      [],
      (omega arith, omega arith, all_digits 8 (codes "100755") refl, refl),
      (λ e. cc),
      plain_name 98 (λ e. omega (arith, e)) (λ e. omega (arith, e)),
      refl,
      refl,
      refl,
      refl,
    ),
    refl,
  ),
)

abbrev placed : List (List ℕ × Entry)
placed = ([], a_file) ∷ ([], b_file) ∷ []

unfolds : Unfolds read_in [] (a_file ∷ b_file ∷ []) placed
unfolds = other (λ e. omega (arith, e)) (other (λ e. omega (arith, e)) whole)

abbrev a_line : List ℕ
a_line = codes "100644 1111111111111111111111111111111111111111 a\n"

abbrev b_line : List ℕ
b_line = codes "100755 2222222222222222222222222222222222222222 b\n"

are_lines : flat_map (entry_line 10) placed ≡ a_line ++ b_line
unfolding digits hex_on_literals
are_lines = refl

is_first_line : flat_map (entry_line 10) (allowed (Some 1) placed) ≡ a_line
unfolding digits hex_on_literals
is_first_line = refl

is_first_ended : flat_map (entry_line 0) (allowed (Some 1) placed) ≡ codes "100644 1111111111111111111111111111111111111111 a" ++ 0 ∷ []
unfolding digits hex_on_literals
is_first_ended = refl

module _ {E : Type 0} (e : E) where
  abbrev Writes : (options : List (List ℕ)) → List ℕ → Type 0
  Writes options out = Promises e (codes "files" ∷ (options ++ codes "2222222222222222222222222222222222222222" ∷ [])) (λ objects rows. AreFed (Some input) objects × (rows ≡ [])) (Some []) (Ok tt) (Some out)

  up_to : (n : ℕ) (number : List ℕ) → IsNumber 10 9 number n → (option : List (List ℕ)) (ending : ℕ) → ((option ≡ []) × (ending ≡ 10)) ⊎ ((option ≡ codes "-z" ∷ []) × (ending ≡ 0))
      → Writes (codes "-n" ∷ number ∷ option) (flat_map (entry_line ending) (allowed (Some n) placed))
  up_to n number counts option ending ends = (
    read_in,
    [],
    (fed, refl),
    ((λ i j d l m. absurd (omega (arith, m))), λ r c n. absurd (no_member r c)),
    λ parents time history. files (Some n) (codes "-n" ∷ number ∷ []) option _ {tree = child} (number, refl, counts) ends spelled is_tree unfolds refl,
  )

  no_line : Writes (codes "-n" ∷ codes "0" ∷ []) []
  no_line = up_to 0 (codes "0") (omega arith, omega arith, all_digits 10 (codes "0") refl, refl) [] 10 (inl (refl, refl))

  first_line : Writes (codes "-n" ∷ codes "1" ∷ []) a_line
  first_line = subst (Writes (codes "-n" ∷ codes "1" ∷ [])) is_first_line (up_to 1 (codes "1") (omega arith, omega arith, all_digits 10 (codes "1") refl, refl) [] 10 (inl (refl, refl)))

  first_ended : Writes (codes "-n" ∷ codes "1" ∷ codes "-z" ∷ []) (codes "100644 1111111111111111111111111111111111111111 a" ++ 0 ∷ [])
  first_ended = subst (Writes (codes "-n" ∷ codes "1" ∷ codes "-z" ∷ [])) is_first_ended (up_to 1 (codes "1") (omega arith, omega arith, all_digits 10 (codes "1") refl, refl) (codes "-z" ∷ []) 0 (inr (refl, refl)))

  all_lines : Writes (codes "-n" ∷ codes "12" ∷ []) (a_line ++ b_line)
  all_lines = subst (Writes (codes "-n" ∷ codes "12" ∷ [])) are_lines (up_to 12 (codes "12") (omega arith, omega arith, all_digits 10 (codes "12") refl, refl) [] 10 (inl (refl, refl)))
