-- A list by the parents that texts name, and the first of it, are such a list and a beginning of one in the words of the page.
use Rattle.std.proofs.Common.{◌≡◌, ◌≢◌, ◌<◌, ℕ, ℤ, List, [], ◌∷◌, ◌++◌, length, AllPairs, Contains, codes, sym, ap, subst, ◌∙◌, arith, length-append}
use Rattle.gix_commands.proofs.Common.{Contains-get_or, Contains-append_left, IsBeginningBy, IsListBy, ObjectId}
use Rattle.std.proofs.Math.ListN.{get_or, get_or-append}
use Rattle.gix_revwalk.proofs.Beginnings.{begins_less}
use Rattle.gix_statement.specs.WholeStatement.{Begins, IsNext, IsShown, IsWhole, Reaches}

module _ (parents followed : ObjectId → List ObjectId) (time : ObjectId → ℤ) (starts hidden : List ObjectId) where
  -- What is shown is listed once and in order. In a topological order all of it is listed where no commit shown is its own ancestor
  -- through what is followed.
  abbrev pub Lists : List ℕ → List ObjectId → Type 0
  Lists by ids =
      AllPairs (λ i j. i ≢ j) ids × ((i : ObjectId) → Contains ids i → IsShown parents followed time starts hidden i) × IsListBy (λ taken i. IsNext parents followed time starts hidden taken i by) ids
      × ((Contains (codes "topo" ∷ codes "date" ∷ []) by → (i : ObjectId) → IsShown parents followed time starts hidden i → Reaches followed (followed i) i → ⊥) → (i : ObjectId) → IsShown parents followed time starts hidden i → Contains ids i)

  module _ (by : List ℕ) (whole : List ObjectId) (l : Lists by whole) where
    -- a beginning of the list
    pub begins_so : (ids more : List ObjectId) → whole ≡ ids ++ more → Begins parents followed time starts hidden by ids
    begins_so ids more cut = (
      λ j d below. let i = get_or ids j d in l.1 i (subst (λ xs. Contains xs i) (sym cut) (Contains-append_left ids more i (Contains-get_or ids j d below))),
      λ i j d less below.
          let within : j < length whole = subst (λ xs. j < length xs) (sym cut) (omega (arith, below, length-append ids more)) in
          let apart = l.0 i j d less within in
          λ e. apart (at i d (omega (arith, less, below)) ∙ e ∙ sym (at j d below)),
      begins_less _ ids more (subst (IsBeginningBy _) cut l.2.begins),
    )
      where
        at : (k : ℕ) (d : ObjectId) → k < length ids → get_or whole k d ≡ get_or ids k d
        at k d few = ap (λ xs. get_or xs k d) cut ∙ get_or-append ids more d k few

    -- all of it
    pub whole_so : IsWhole parents followed time starts hidden by whole
    whole_so = (l.2.ends, l.3)
