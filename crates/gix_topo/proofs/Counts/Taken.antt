-- The taken commits, as the table tells them: those that were ready once, and aren't now.
use Rattle.std.proofs.Common.{◌≡◌, Bool, true, false, not, ◌&&◌, ◌||◌, Option, is_some, Contains, List, sym, ap, ◌∙◌, arith}
use Rattle.std.proofs.Math.Bool.{and-false}
use Rattle.std.specs.FinMap as map_of
use Rattle.std.specs.FinSet as set
use Rattle.gix_topo.proofs.Common.{ObjectId, id_cmp, is_among, id_total, id_apart, among_from, among_is, Walk, known_of, known_or, Known, taken_of, Ready, ready_ids}
use Rattle.gix_topo.specs.Inside.Releasing.{taken_in}
use Rattle.gix_topo.proofs.Counts.Children.{was_ready_of}

pub contains-taken : (known : map_of.FinMap id_cmp Known) (ready : List Ready) (i : ObjectId) → set.contains (taken_in known ready) i ≡ ((known_of known i).was_ready && not (is_among i (ready_ids ready)))
unfolding taken_in
contains-taken known ready i =
    set.contains-retain (set.from_list (map_of.keys known)) was_taken i (λ x e. ap was_taken (sym (id_apart i x e)))
    ∙ ap (λ b. b && was_taken i) (set.contains-from_list id_total (map_of.keys known) i ∙ sym (map_of.contains_key-keys known i)) ∙ in_table (map_of.get known i)
  where
    was_taken : ObjectId → Bool
    was_taken j = (known_of known j).was_ready && not (is_among j (ready_ids ready))

    in_table : (found : Option Known) → (is_some found && ((known_or found).was_ready && not (is_among i (ready_ids ready)))) ≡ ((known_or found).was_ready && not (is_among i (ready_ids ready)))
    in_table found = grind arith

-- a ready commit isn't one
pub ready_untaken : {F : Type 0} (w : Walk F) (i : ObjectId) → Contains (ready_ids w.ready.commits) i → set.contains (taken_of w) i ≡ false
ready_untaken w i m = contains-taken w.counting.frontier.known w.ready.commits i ∙ ap (λ b. was_ready_of w.counting.frontier i && not b) (among_from i _ m) ∙ and-false (was_ready_of w.counting.frontier i)

-- what was ready once is taken or ready
pub made_taken : {F : Type 0} (w : Walk F) → ((i : ObjectId) → Contains (ready_ids w.ready.commits) i → was_ready_of w.counting.frontier i ≡ true) → (i : ObjectId) → was_ready_of w.counting.frontier i ≡ (set.contains (taken_of w) i || is_among i (ready_ids w.ready.commits))
made_taken w made i = either (was_ready_of w.counting.frontier i) (is_among i (ready_ids w.ready.commits)) (λ e. made i (among_is i _ e)) ∙ ap (λ b. b || is_among i (ready_ids w.ready.commits)) (sym (contains-taken w.counting.frontier.known w.ready.commits i))
  where
    either : (m r : Bool) → (r ≡ true → m ≡ true) → m ≡ ((m && not r) || r)
    either m r h = grind arith
