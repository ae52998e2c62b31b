use Rattle.std.proofs.Common.{◌≡◌, ◌-◌, ◌∙◌, refl, sym, ap, subst, ◌∷◌, [], Some, slice_get}
use Rattle.std.proofs.lemmas.Option.{slice_get-get_or}
use Rattle.std.proofs.lemmas.Result.{on_ok_weaker}
use Rattle.gix_revision.specs.Resolves.{Excludes}
use Rattle.gix_revision.proofs.meaning.push_excluded.Goals as goal

pub returns-in-Some-get : goal.returns-in-Some-get
returns-in-Some-get c =
    let parents = c.args.commit.now.links.parents.items in
    let id = c.in-Some-get.id.now in
    let place = c.in-Some-get.ensures.lookup.3 in
    let there : slice_get c.as_slice-parents.result.now c.saturating_sub.result ≡ Some id = slice_get-get_or _ _ id place.0 ∙ ap Some (sym (place.1 id)) in
    let at : slice_get parents (c.in-Some.number - 1) ≡ Some id = subst (λ n. slice_get parents n ≡ Some id) c.saturating_sub.ensures
    (subst (λ ids. slice_get ids c.saturating_sub.result ≡ Some id) c.as_slice-parents.ensures.value there) in
    on_ok_weaker c.push_parent.result
    (λ pushed. (id ∷ [], subst (λ p. Excludes p parents (id ∷ [])) (sym c.in-Some.is) (id, at, refl), (c.push_parent.new.found.items, pushed, refl)))
    c.push_parent.ensures
