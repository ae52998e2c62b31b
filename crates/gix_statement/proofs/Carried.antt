-- What is right of the objects that were read is right of all objects that have them.
use Rattle.std.proofs.Common.{◌≡◌, ◌≢◌, ◌⊎◌, ℕ, ℤ, List, [], ◌∷◌, Option, Some, None, All, Contains, refl, sym, ap, ◌∙◌, inl, inr, ⊎_elim, zero, suc, true}
use Rattle.std.proofs.lemmas.List.Elements.{All-contains}
use Rattle.gix_hash.proofs.Ids.Membership.{no_member}
use Rattle.gix_hash.specs.declared.ObjectId.{ObjectId}
use Rattle.gix_statement.proofs.SameLines.{same_texts, text_same}
use Rattle.gix_statement.specs.WholeStatement.{Object, Objects, Row, IsText, IsCommit, IsThere, IsHistory, Clash, Carries, Lists, lists, Serves, commits, ahead, contains, containing, bases, files, IsTree, Unfolds, whole, other, tree, Entry}

module _ (read objects : Objects) (rows others : List Row) (all : (i : ObjectId) (o : Object) → read i ≡ Some o → objects i ≡ Some o) (agree : (r : Row) → Contains rows r → IsCommit objects others r) where
  text_too : (r : Row) → IsText read r → IsText objects r
  text_too r (id, lines, rest, spells, parents, time, is) = (id, lines, rest, spells, parents, time, all r.id _ is)

  commit_too : (r : Row) → IsCommit read rows r → IsCommit objects others r
  commit_too r (inl text) = inl (text_too r text)
  commit_too r (inr (none, row)) = agree r row

  there_too : (i : ObjectId) → IsThere read rows i → IsThere objects others i
  there_too i (r, is, commit) = (r, is, commit_too r commit)

  all_there : (ids : List ObjectId) → All (IsThere read rows) ids → All (IsThere objects others) ids
  all_there ids h k d below = there_too _ (h k d below)

  all_texts : (ids : List ObjectId) → All (IsThere read []) ids → All (IsThere objects []) ids
  all_texts ids h k d below = let (r, is, c) = h k d below in (r, is, ⊎_elim (λ text. inl (text_too r text)) (λ row. absurd (no_member r row.1)) c)

  tree_too : (i : ObjectId) (entries : List Entry) → IsTree read i entries → IsTree objects i entries
  tree_too i entries (text, is, are) = (text, all i _ is, are)

  unfolds_too : {path : List ℕ} {entries : List Entry} {placed : List (List ℕ × Entry)} → Unfolds read path entries placed → Unfolds objects path entries placed
  unfolds_too whole = whole
  unfolds_too (other mode rest) = other mode (unfolds_too rest)
  unfolds_too (tree {e = e} {inner = inner} mode is inside rest) = tree mode (tree_too e.id inner is) (unfolds_too inside) (unfolds_too rest)

  history_too : (parents : ObjectId → List ObjectId) (time : ObjectId → ℤ) → IsHistory objects others parents time → IsHistory read rows parents time
  history_too parents time h r c = h r (commit_too r c)

  module _ (parents : ObjectId → List ObjectId) (time : ObjectId → ℤ) where
    lists_too : (bytes : List ℕ) (words : List (List ℕ)) → Lists read rows parents time bytes true words → Lists objects others parents time bytes true words
    lists_too bytes words (lists option more c ids named chooses some follows there texts begins allows ended may is_written) =
        lists option more c ids named chooses some follows (all_there ids there) (λ e. all_texts ids (texts e)) begins allows ended may
        (is_written ∙ same_texts read objects parents time c ids (λ e i m. text_same read objects i (All-contains (IsThere read []) ids i (texts e) m) (all i)))

    serves_too : (old new : Option (List ℕ)) (words : List (List ℕ)) → Serves read rows parents time old new words → Serves objects others parents time old new words
    serves_too old new words (commits ids l appends) = commits ids (lists_too ids words l) appends
    serves_too old new words (ahead {one = one} {other = two} n m a b one_there other_there ns ms appends) = ahead n m a b (there_too one one_there) (there_too two other_there) ns ms appends
    serves_too old new words (contains {tip = tip} {ids = ids} are some there keeps appends) = contains are some (all_there (tip ∷ ids) there) keeps appends
    serves_too old new words (containing {target = target} {tips = tips} are some there keeps appends) = containing are some (all_there (target ∷ tips) there) keeps appends
    serves_too old new words (bases {one = one} {others = ids} those are some there exact rising appends) = bases those are some (all_there (one ∷ ids) there) exact rising appends
    serves_too old new words (files limit bound option a {tree = i} {entries = entries} within ends spells is unfolds appends) = files limit bound option a within ends spells (tree_too i entries is) (unfolds_too unfolds) appends

pub equal_numbers : (a b : ℕ) → (a ≡ b) ⊎ (a ≢ b)
equal_numbers zero zero = inl refl
equal_numbers zero (suc b) = inr (λ e. cc)
equal_numbers (suc a) zero = inr (λ e. cc)
equal_numbers (suc a) (suc b) = ⊎_elim (λ e. inl (ap suc e)) (λ n. inr (λ e. n (let same : a ≡ b = cc in same))) (equal_numbers a b)

pub equal_lists : (xs ys : List ℕ) → (xs ≡ ys) ⊎ (xs ≢ ys)
equal_lists [] [] = inl refl
equal_lists [] (y ∷ ys) = inr (λ e. cc)
equal_lists (x ∷ xs) [] = inr (λ e. cc)
equal_lists (x ∷ xs) (y ∷ ys) = ⊎_elim
    (λ h. ⊎_elim (λ t. inl (λ k. h k ∷ t k)) (λ n. inr (λ e. n (let same : xs ≡ ys = cc in same))) (equal_lists xs ys))
    (λ n. inr (λ e. n (let same : x ≡ y = cc in same)))
    (equal_numbers x y)

pub same_object : (a b : Object) → ((a ≢ b) → ⊥) → a ≡ b
same_object a b h = ⊎_elim
    (λ k. ⊎_elim (λ t. (λ j. record { kind = k j; bytes = t j })) (λ n. absurd (h (λ e. n (ap (λ o. o.bytes) e)))) (equal_lists a.bytes b.bytes))
    (λ n. absurd (h (λ e. n (ap (λ o. o.kind) e))))
    (equal_lists a.kind b.kind)

same_unless : (read objects : Objects) → ((i : ObjectId) → read i ≢ None → objects i ≢ None) → (Clash read objects → ⊥) → (i : ObjectId) (o : Object) → read i ≡ Some o → objects i ≡ Some o
same_unless read objects has clash i o e = go (objects i) refl
  where
    go : (found : Option Object) → objects i ≡ found → objects i ≡ Some o
    go None n = absurd (has i (λ none. let no : Some o ≡ None = sym e ∙ none in cc) n)
    go (Some b) n = n ∙ ap Some (sym (same_object o b (λ differ. clash (i, o, b, e, n, differ))))

pub carries : Carries
carries read objects rows others words old new has clash agree right parents time history =
    let all = same_unless read objects has clash in
    serves_too read objects rows others all agree parents time old new words (right parents time (history_too read objects rows others all agree parents time history))

abbrev or_of : Option Object → Option Object → Option Object
or_of None second = second
or_of (Some o) second = Some o

-- what the first has, and what the second has where the first has nothing
abbrev pub both_of : Objects → Objects → Objects
both_of read objects i = or_of (read i) (objects i)

pub first_kept : (read objects : Objects) (i : ObjectId) (o : Object) → read i ≡ Some o → both_of read objects i ≡ Some o
first_kept read objects i o e = ap (λ found. or_of found (objects i)) e

pub second_kept : (read objects : Objects) → (Clash read objects → ⊥) → (i : ObjectId) (o : Object) → objects i ≡ Some o → both_of read objects i ≡ Some o
second_kept read objects clash i o e = go (read i) refl
  where
    go : (found : Option Object) → read i ≡ found → or_of found (objects i) ≡ Some o
    go None n = e
    go (Some a) n = ap Some (same_object a o (λ differ. clash (i, a, o, n, e, differ)))
