-- Both sides meet what they start from, before anything is read.
use Rattle.std.proofs.Common.{◌≡◌, ◌+◌, List, [], Bool, false, not, ◌&&◌, cond, Contains, sym, ap, subst, ⊎_elim, ◌∙◌, arith, true≢false}
use Rattle.std.specs.FinMap as map
use Rattle.gix_topo.proofs.Common.{ObjectId, id_cmp, is_among, Objects, GraphRow, among_from, among_is, no_member, Parents, Side, Tips, Ends, Unseen, Queued, Frontier, is_done, unknown, known_or, known_of, reached, waiting, start}
use Rattle.gix_topo.proofs.Common.{IsSearched, IsCounted, IsBegun, starts_by, MeetsAll}
use Rattle.gix_topo.proofs.Counts.MeetsParents.{AreMet, all_met}
use Rattle.gix_topo.proofs.Counts.Children.{children_of, was_ready_of}

module _ (objects : Objects) (rows : List GraphRow) (parents : Parents) (tips ends : List ObjectId) where
  -- the searches have met what they start from, and nothing is read or ready
  pub record IsFresh (f : Frontier) : Type 0 where
    pub searched : IsSearched objects rows parents tips ends f.queue f.known
    pub begun : (side : Side) → IsBegun tips ends side f
    pub undone : (side : Side) (i : ObjectId) → is_done (reached f.known side i) ≡ false
    pub childless : (i : ObjectId) → children_of f i ≡ 0
    pub unmade : (i : ObjectId) → was_ready_of f i ≡ false

  pub fresh_met : (none some f : Frontier) → none.queue ≡ [] → none.known ≡ map.empty → MeetsAll rows Tips none tips some → MeetsAll rows Ends some ends f → IsFresh f
  fresh_met none some f q k m n = record {
    searched = record {
      search = λ side. record {
        within = λ i e. start (among_is i _ (grind (arith, now side i)));
        queued = λ i. grind (arith, now side i, waits side i);
        closed = λ c i e m. absurd (true≢false (grind (arith, now side c)));
      };
      keyed = λ entry c. ⊎_elim (λ e. e) (λ t. ⊎_elim (λ e. e) (λ u. absurd (no_member entry (subst (λ those. Contains those entry) q u))) (a.keyed entry t)) (b.keyed entry c);
    };
    begun = λ side i m. grind (arith, now side i, among_from i _ m);
    undone = λ side i. grind (arith, now side i);
    childless = λ i. b.children i ∙ ap (λ x. 0 + x) (a.children i) ∙ ap (λ known. 0 + (0 + known.indegree)) (unmet i);
    unmade = λ i. b.made i ∙ a.made i ∙ ap (λ known. known.was_ready) (unmet i);
  }
    where
      a : AreMet rows Tips tips (λ j. 0) none some
      a = all_met rows m

      b : AreMet rows Ends ends (λ j. 0) some f
      b = all_met rows n

      unmet : (i : ObjectId) → known_of none.known i ≡ unknown
      unmet i = ap (λ those. known_of those i) k ∙ ap known_or (map.get-empty id_cmp i)

      now : (side : Side) (i : ObjectId) → reached f.known side i ≡ cond (is_among i (starts_by tips ends side)) Queued Unseen
      now side i = grind (arith, b.moved side i, a.moved side i, unmet i)

      waits : (side : Side) (i : ObjectId) → waiting f.queue side i ≡ cond (is_among i (starts_by tips ends side)) 1 0
      waits side i = grind (arith, b.waits side i, b.moved side i, a.waits side i, a.moved side i, unmet i, ap (λ those. waiting those side i) q)

  -- nobody was taken, and nothing counted
  pub fresh_counted : (f : Frontier) (taken : ObjectId → Bool) → ((i : ObjectId) → taken i ≡ false) → IsFresh f → IsCounted objects rows parents tips ends taken f
  fresh_counted f taken untaken h = record {
    searched = h.searched;
    tally = record {
      open_to = [];
      each = λ i. ap (λ b. cond (b && not (taken i)) 1 0) (sym (h.undone Tips i));
      counts = h.childless;
      taken_done = λ i e. absurd (true≢false (sym e ∙ untaken i));
    };
  }
