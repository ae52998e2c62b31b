-- What is right of a history as far as it is known is right of all of it, where it doesn't hang on what is below a line.
use Rattle.std.proofs.Common.{◌≡◌, ℕ, ℤ, List, [], ◌∷◌, Option, All, Contains, length, drop, suc, true, refl, sym, ap, subst, ◌∙◌, ⊎_elim}
use Rattle.std.proofs.lemmas.List.Elements.{All-contains}
use Rattle.gix_hash.specs.declared.ObjectId.{ObjectId}
use Rattle.gix_statement.specs.WholeStatement.{Allows, Begins, Choice, chosen, commit_line, IsShown, IsThere, IsWhole, Lists, lists, Objects, Row, Serves, commits, ahead, contains, containing, bases, files, written}
use Rattle.gix_statement.proofs.EachHistory.{filter_same}
use Rattle.gix_statement.proofs.SameLines.{chosen_in, same_line, written_same}
use Rattle.gix_history_cut.specs.Cut.{BeginsAbove, CutCarries, IsBelow, IsDecided, ShowsAbove}
use Rattle.gix_history_cut.proofs.AboveLimit.{limit_above, limit_begins, limit_goes_on}
use Rattle.gix_history_cut.proofs.AlikeSides.{begins_alike, counted_alike, whole_alike}
use Rattle.gix_history_cut.proofs.BelowLine.{AreFollowed, IsCut, base_back, base_there, contains_cut, containing_cut, followed_all, known_same, least_cut, option_above, option_alike, option_within, plain_alike}

-- what is chosen, and what is written of it, goes by the parents of what is listed
chosen_same : (parents known : ObjectId → List ObjectId) (time : ObjectId → ℤ) (c : Choice) (ids : List ObjectId) → ((i : ObjectId) → Contains ids i → known i ≡ parents i)
    → chosen known time c ids ≡ chosen parents time c ids
chosen_same parents known time c ids same = ap (drop c.skip) (filter_same (λ i. c.keeps (length (known i)) (time i)) (λ i. c.keeps (length (parents i)) (time i)) ids (λ i m k. c.keeps (length (same i m k)) (time i)))

lines_same : (objects : Objects) (parents known : ObjectId → List ObjectId) (time : ObjectId → ℤ) (c : Choice) (ids : List ObjectId) → ((i : ObjectId) → Contains ids i → known i ≡ parents i)
    → written (commit_line objects known time c.line) c.form (chosen known time c ids) ≡ written (commit_line objects parents time c.line) c.form (chosen parents time c ids)
lines_same objects parents known time c ids same =
    written_same (commit_line objects known time c.line) (commit_line objects parents time c.line) c.form (chosen known time c ids)
    (λ i m. same_line objects objects known parents time time c.line i (same i (chosen_in known time c ids i m)) refl (λ e. refl))
    ∙ ap (written (commit_line objects parents time c.line) c.form) (chosen_same parents known time c ids same)

module _ (objects : Objects) (rows some : List Row) (there_on : (i : ObjectId) → IsThere objects some i → IsThere objects rows i)
    (Below : ObjectId → Type 0) (parents known : ObjectId → List ObjectId) (time : ObjectId → ℤ) (cut : IsCut Below parents known) where
  all_on : (ids : List ObjectId) → All (IsThere objects some) ids → All (IsThere objects rows) ids
  all_on ids there k d below = there_on _ (there k d below)

  module _ (by : List ℕ) (option : List (List ℕ)) (c : Choice) (tips hidden ids starts : List ObjectId) (followed : ObjectId → List ObjectId) (f : AreFollowed parents known time tips by option followed starts)
      (begins : Begins known followed time starts hidden by ids) where
    -- a list of what is known is one of all, above the line, and whole if it is so and the limit allows one more
    abbrev IsCarried : Type 0
    IsCarried = ((i : ObjectId) → Contains ids i → Below i → ⊥) × Begins parents f.follows time starts hidden by ids
        × (Allows c.limit (suc (length (chosen known time c ids))) → IsWhole known followed time starts hidden by ids → IsWhole parents f.follows time starts hidden by ids)

    shown_carried : ShowsAbove Below known time tips hidden → IsCarried
    shown_carried above =
        let a = option_alike Below parents known cut time tips hidden by option followed starts f above in (
          λ i m. option_above Below parents known cut time tips hidden by option followed starts f above i (All-contains (IsShown known followed time starts hidden) ids i begins.0 m),
          begins_alike known parents followed f.follows time starts hidden a by ids begins,
          λ more. whole_alike known parents followed f.follows time starts hidden a by ids begins (option_within Below parents known cut time tips by option followed starts f),
        )

    limit_carried : Allows c.limit (length (chosen known time c ids)) → BeginsAbove Below known followed time starts hidden by c → IsCarried
    limit_carried allows l = (
      limit_above Below parents known cut time tips hidden starts by option followed f c l ids begins allows,
      limit_begins Below parents known cut time tips hidden starts by option followed f c l ids begins allows,
      λ more whole. absurd (limit_goes_on Below parents known cut time tips hidden starts by option followed f c l ids begins allows more whole.0),
    )

  lists_cut : (bytes : List ℕ) (words : List (List ℕ)) → IsDecided Below known time words → Lists objects some known time bytes true words → Lists objects rows parents time bytes true words
  lists_cut bytes words decided (lists {by = by} option more c ids {tips = tips} {hidden = hidden} {starts = starts} {followed = followed} named chooses some_tips follows there texts begins allows ended may is_written) =
      let f = followed_all parents known time tips by option follows in
      let carried : IsCarried by option c tips hidden ids starts followed f begins =
      ⊎_elim (shown_carried by option c tips hidden ids starts followed f begins) (limit_carried by option c tips hidden ids starts followed f begins allows) (decided.lists refl named chooses follows) in
      let same : (i : ObjectId) → Contains ids i → known i ≡ parents i = (λ i m. known_same Below parents known cut i (carried.0 i m)) in
      let chosen_here : chosen known time c ids ≡ chosen parents time c ids = chosen_same parents known time c ids same in
      lists option more c ids named chooses some_tips f.is (all_on ids there) texts carried.1
      (subst (λ xs. Allows c.limit (length xs)) chosen_here allows)
      (λ e more_allowed. let allowed = subst (λ xs. Allows c.limit (suc (length xs))) (sym chosen_here) more_allowed in carried.2 allowed (ended e allowed))
      may (is_written ∙ lines_same objects parents known time c ids same)

  pub serves_cut : (old new : Option (List ℕ)) (words : List (List ℕ)) → IsDecided Below known time words → Serves objects some known time old new words → Serves objects rows parents time old new words
  serves_cut old new words decided (commits bytes l appends) = commits bytes (lists_cut bytes words decided l) appends
  serves_cut old new words decided (ahead {one = one} {other = two} n m a b one_there other_there ns ms appends) =
      let above = decided.ahead refl a b in
      ahead n m a b (there_on one one_there) (there_on two other_there)
      (counted_alike known parents known parents time (one ∷ []) (two ∷ []) (plain_alike Below parents known cut time (one ∷ []) (two ∷ []) above.0) n ns)
      (counted_alike known parents known parents time (two ∷ []) (one ∷ []) (plain_alike Below parents known cut time (two ∷ []) (one ∷ []) above.1) m ms) appends
  serves_cut old new words decided (contains {tip = tip} {ids = ids} {those = those} are some_ids there keeps appends) =
      contains are some_ids (all_on (tip ∷ ids) there) (contains_cut Below parents known cut tip ids those (decided.contains tip ids refl are) keeps) appends
  serves_cut old new words decided (containing {target = target} {tips = tips} {those = those} are some_tips there keeps appends) =
      containing are some_tips (all_on (target ∷ tips) there) (containing_cut Below parents known cut target tips those (decided.containing target tips refl are) keeps) appends
  serves_cut old new words decided (bases {one = one} {others = others} those are some_others there exact rising appends) =
      let d = decided.bases one others refl are in
      bases those are some_others (all_on (one ∷ others) there)
      (λ i. (λ m. base_there Below parents known cut time one others d.0 d.1 i ((exact i).0 m), λ b. (exact i).1 (base_back Below parents known cut time one others d.0 d.1 i b))) rising appends
  serves_cut old new words decided (files limit bound option a within ends spells is unfolds appends) = files limit bound option a within ends spells is unfolds appends

pub cut_carries : CutCarries
cut_carries objects rows some parents known time words old new either there_on decided right =
    serves_cut objects rows some there_on (IsBelow parents known) parents known time (least_cut parents known either) old new words decided right
