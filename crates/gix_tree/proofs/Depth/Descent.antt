-- An entry shown by a walk in depth, by the calls that were made.
use Rattle.std.proofs.Common.{◌≡◌, Bool, true, false, List, [], ◌∷◌, Some, None, Ok, Err, refl, subst, Continue, Break}
use Rattle.gix_tree.proofs.Common.{ObjectId, is_among, TreeEntry, is_tree, Error, Stop, Call, PushPath, PopPath, PushBack, Refused, RefusedIn, here, later, Items, Enters, Cycles, visit_call, visit_call_of, depth_calls, visit_below}
use Rattle.gix_tree.proofs.Common.{ShowsBelow, ShowsUpTo, Descends}
use Rattle.gix_tree.specs.declared.breadthfirst.Error.TheVariants as error
use Rattle.gix_tree.specs.declared.depthfirst.Stop.TheVariants as stop
use Rattle.gix_tree.specs.Inside.ShowsBelow as shows
use Rattle.gix_tree.proofs.Shown.{visit_takes, plain_leaves, leads}

module _ {V : Type 0} (steps : V → Call → V → Type 0) (ids : List ObjectId) (e : TreeEntry) (old : V) where
  pub push_refused : (new : V) → steps old Refused new → ShowsBelow steps ids e old new (Err error.Memory)
  push_refused new s = shows.refused (Continue false) (here refl) (new, s, refl)

  pub visit_refused : (mid new : V) → steps old (PushPath e.name) mid → steps mid Refused new → ShowsBelow steps ids e old new (Err error.Memory)
  visit_refused mid new p s = shows.refused (Continue false) (later (here (visit_takes (is_tree e.mode) e (Continue false)))) (mid, p, (new, s, refl))

  pub tree_breaks : (b : Unit {0}) (mid low new : V) → is_tree e.mode ≡ true → steps old (PushPath e.name) mid → steps mid (visit_call_of (is_tree e.mode) e (Break b)) low → steps low PopPath new → ShowsBelow steps ids e old new (Ok (Some stop.Broken))
  tree_breaks b mid low new t p s q = shows.broke (Break b) refl (rw t (mid, p, (low, rw t at s, (new, q, refl))))

  pub plain_breaks : (b : Unit {0}) (mid new : V) → is_tree e.mode ≡ false → steps old (PushPath e.name) mid → steps mid (visit_call_of (is_tree e.mode) e (Break b)) new → ShowsBelow steps ids e old new (Ok (Some stop.Broken))
  plain_breaks b mid new t p s = shows.broke (Break b) refl (rw t (mid, p, (new, rw t at s, refl)))

  pub visit_leaves : (into : Bool) (mid low new : V) → (into ≡ true → is_tree e.mode ≡ false) → steps old (PushPath e.name) mid → steps mid (visit_call_of (is_tree e.mode) e (Continue into)) low → steps low PopPath new → ShowsBelow steps ids e old new (Ok None)
  visit_leaves into mid low new h p s q =
      let leaves = plain_leaves (is_tree e.mode) into (is_among e.id ids) h in
      shows.left (Continue into) leaves (rw leaves (mid, p, (low, s, (new, q, refl))))

  -- the entry's tree isn't gone into, and the walk ends
  pub descent_ends : (mid low deep new : V) (why : Error) → is_tree e.mode ≡ true → steps old (PushPath e.name) mid → steps mid (visit_call_of (is_tree e.mode) e (Continue true)) low → steps low PopPath deep → Descends steps ids e deep new (Err why) → ShowsBelow steps ids e old new (Err why)
  descent_ends mid low deep new why t p s q (shows.cycled k) =
      let cycles = leads ids e true Cycles t k refl in
      shows.cycled (Continue true) cycles (rw cycles (mid, p, (low, s, (deep, q, refl))))
  descent_ends mid low deep new why t p s q (shows.no_memory k) = shows.no_memory (Continue true) (leads ids e false Enters t k refl) (mid, p, (low, s, (deep, q, refl)))
  descent_ends mid low deep new why t p s q (shows.refused_first k r) =
      let enters = leads ids e false Enters t k refl in
      let made : RefusedIn (depth_calls (visit_below ids e (Continue true))) (PushPath e.name ∷ visit_call (visit_below ids e (Continue true)) ∷ PopPath ∷ Refused ∷ []) = rw enters (later (later (later (here refl)))) in
      shows.refused (Continue true) made (mid, p, (low, s, (deep, q, (new, r, refl))))
  descent_ends mid low deep new why t p s q (shows.refused {mid = back} k r z) =
      let enters = leads ids e false Enters t k refl in
      let made : RefusedIn (depth_calls (visit_below ids e (Continue true))) (PushPath e.name ∷ visit_call (visit_below ids e (Continue true)) ∷ PopPath ∷ PushBack [] ∷ Refused ∷ []) = rw enters (later (later (later (later (here refl))))) in
      shows.refused (Continue true) made (mid, p, (low, s, (deep, q, (back, r, (new, z, refl)))))

  pub descent_goes_on : (mid low deep new : V) → is_tree e.mode ≡ true → steps old (PushPath e.name) mid → steps mid (visit_call_of (is_tree e.mode) e (Continue true)) low → steps low PopPath deep → Descends steps ids e deep new (Ok tt) → ShowsBelow steps ids e old new (Ok (Some (stop.Into e.id)))
  descent_goes_on mid low deep new t p s q (shows.told {mid = back} k r z) =
      let enters = leads ids e false Enters t k refl in
      shows.entered (Continue true) enters (rw enters (mid, p, (low, s, (deep, q, (back, r, (new, z, refl))))))

pub stops_at : {V : Type 0} (steps : V → Call → V → Type 0) (ids : List ObjectId) {e : TreeEntry} {items left : Items} {old new : V} {how : Stop} → ShowsBelow steps ids e old new (Ok (Some how)) → items ≡ left → ShowsUpTo steps ids (Ok e ∷ items) old new (Ok how) left
stops_at steps ids {e = e} {items = items} {old = old} {new = new} {how = how} h same = subst (λ l. ShowsUpTo steps ids (Ok e ∷ items) old new (Ok how) l) same (shows.stops h)
