-- What is written of commits is the same by lines that are the same.
use Rattle.std.proofs.Common.{◌≡◌, ◌++◌, true, if◌then◌else◌, ap, ℕ, ℤ, zero, suc, List, [], Some, codes, inl, inr, sym, subst, ◌∙◌, ◌∷◌, length, drop, filter, reverse, flat_map, Contains, refl}
use Rattle.gix_hash.proofs.Ids.Membership.{Contains-here, Contains-there, no_member}
use Rattle.gix_hash.specs.declared.ObjectId.{ObjectId}
use Rattle.hex.specs.Hex.{encode_lower}
use Rattle.std.specs.Fmt.{signed_decimal}
use Rattle.gix_statement.specs.Formats.{formatted}
use Rattle.gix_statement.specs.WholeStatement.{Object, Objects, IsThere, bytes_in, says_more, text_in, Choice, Form, Line, Lines, Number, Reversed, chosen, commit_line, written}
use Rattle.gix_statement.proofs.Descents.{reverse_in}
use Rattle.gix_statement.proofs.EachHistory.{filter_in}

drop_in : {I : Type 0} (n : ℕ) (xs : List I) (i : I) → Contains (drop n xs) i → Contains xs i
drop_in zero xs i m = m
drop_in (suc n) [] i m = m
drop_in (suc n) (x ∷ xs) i m = Contains-there i x xs (drop_in n xs i m)

-- what is chosen of commits is among them
pub chosen_in : {I : Type 0} (parents : I → List I) (time : I → ℤ) (c : Choice) (ids : List I) (i : I) → Contains (chosen parents time c ids) i → Contains ids i
chosen_in {I} parents time c ids i m =
    let keeps = λ (j : I). c.keeps (length (parents j)) (time j) in
    filter_in keeps ids i (drop_in c.skip (filter keeps ids) i m)

-- what a format says of a commit goes by its text, if there is one
same_said : (format : List ℕ) (i : ObjectId) (parents : List ObjectId) (time : ℤ) (a b : List ℕ) → (says_more format ≡ true → a ≡ b)
    → formatted (record { id = i; parents = parents; time = time; text = a }) 0 format ≡ formatted (record { id = i; parents = parents; time = time; text = b }) 0 format
same_said [] i parents time a b same = refl
same_said (f ∷ format) i parents time a b same = ap (λ text. formatted (record { id = i; parents = parents; time = time; text = text }) 0 (f ∷ format)) (same refl)

-- a line says of a commit its parents, its time and its text alone
pub same_line : (read objects : Objects) (parents other : ObjectId → List ObjectId) (time times : ObjectId → ℤ) (has : Line) (i : ObjectId) → parents i ≡ other i → time i ≡ times i
    → (says_more has.format ≡ true → text_in (read i) ≡ text_in (objects i)) → commit_line read parents time has i ≡ commit_line objects other times has i
same_line read objects parents other time times has i p t s =
    let part : formatted (record { id = i; parents = parents i; time = time i; text = text_in (read i) }) 0 has.format ≡ formatted (record { id = i; parents = other i; time = times i; text = text_in (objects i) }) 0 has.format =
    (λ k. formatted (record { id = i; parents = p k; time = t k; text = text_in (read i) }) 0 has.format) ∙ same_said has.format i (other i) (times i) (text_in (read i)) (text_in (objects i)) s in
    (λ k. (if has.has_time then signed_decimal (t k) ++ 32 ∷ [] else []) ++ ((if has.has_id then encode_lower (bytes_in i) else [])
    ++ ((if has.has_parents then flat_map (λ q. 32 ∷ encode_lower (bytes_in q)) (p k) else []) ++ (part k ++ has.ending ∷ []))))

lines_same : {I : Type 0} (f g : I → List ℕ) (ids : List I) → ((i : I) → Contains ids i → f i ≡ g i) → flat_map f ids ≡ flat_map g ids
lines_same f g [] h = refl
lines_same f g (x ∷ ids) h =
    let tail = lines_same f g ids (λ i m. h i (Contains-there i x ids m)) in
    (λ k. h x (Contains-here x ids) k ++ tail k)

pub written_same : {I : Type 0} (f g : I → List ℕ) (form : Form) (ids : List I) → ((i : I) → Contains ids i → f i ≡ g i) → written f form ids ≡ written g form ids
written_same f g Lines ids h = lines_same f g ids h
written_same f g Reversed ids h = lines_same f g (reverse ids) (λ i m. h i (reverse_in ids i m))
written_same f g Number ids h = refl

-- of commits that have the same texts, where a format says something of them, the same is written
pub same_texts : (read objects : Objects) (parents : ObjectId → List ObjectId) (time : ObjectId → ℤ) (c : Choice) (ids : List ObjectId)
    → (says_more c.line.format ≡ true → (i : ObjectId) → Contains ids i → text_in (read i) ≡ text_in (objects i))
    → written (commit_line read parents time c.line) c.form (chosen parents time c ids) ≡ written (commit_line objects parents time c.line) c.form (chosen parents time c ids)
same_texts read objects parents time c ids same =
    written_same (commit_line read parents time c.line) (commit_line objects parents time c.line) c.form (chosen parents time c ids)
    (λ i m. same_line read objects parents parents time time c.line i refl refl (λ e. same e i (chosen_in parents time c ids i m)))

-- a commit that is there by its text has the same text among objects that have it
pub text_same : (read objects : Objects) (i : ObjectId) → IsThere read [] i → ((o : Object) → read i ≡ Some o → objects i ≡ Some o) → text_in (read i) ≡ text_in (objects i)
text_same read objects i (r, is, inl (id, lines, rest, spells, parents, time, at)) same =
    let found = subst (λ j. read j ≡ Some (record { kind = codes "commit"; bytes = codes "tree " ++ id ++ 10 ∷ lines })) is at in
    ap text_in (found ∙ sym (same _ found))
text_same read objects i (r, is, inr (none, row)) same = absurd (no_member r row)
