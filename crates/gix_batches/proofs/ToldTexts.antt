-- What is told of the commits of a list is what their texts say.
use Rattle.std.proofs.Common.{◌≡◌, ℕ, ℤ, Bool, List, [], ◌∷◌, ◌++◌, flat_map, Option, None, All, refl, sym, ap, subst, ◌∙◌, inl, inr}
use Rattle.std.specs.List.{AllByRecursion}
use Rattle.std.proofs.lemmas.List.Elements.{All-head, All-tail}
use Rattle.gix_hash.specs.declared.ObjectId.{ObjectId}
use Rattle.gix_hash.proofs.Ids.Membership.{no_member}
use Rattle.gix_object.specs.Object.{Objects}
use Rattle.gix_revwalk.specs.Commits.{time_of}
use Rattle.gix_revwalk.specs.Texts.{text_next}
use Rattle.gix_revwalk.specs.declared.Info.{Info}
use Rattle.gix_statement.specs.WholeStatement as page
use Rattle.gix_statement.specs.WholeStatement.{InEach, IsCommit, IsText, IsThere, Row, id_line}
use Rattle.gix_commands.specs.Pages.{page_objects}
use Rattle.gix_commands.proofs.CommitRuns.{ids_in}
use Rattle.gix_commands.proofs.PageCommits.{fed_history}
use Rattle.gix_batches.specs.Batches.{IsTold, Says, Shows}
use Rattle.gix_batches.specs.Slices.{Told, told_by, told_of}
use Rattle.gix_batches.proofs.ToldWalks.{IsRead}

told_lines : (infos : List Info) → flat_map (λ (t : Told). id_line t.id) (told_by infos) ≡ flat_map id_line (ids_in infos)
told_lines [] = refl
told_lines (info ∷ infos) = ap (λ xs. id_line info.id ++ xs) (told_lines infos)

module _ (objects : Objects) (words : List (List ℕ)) (cut : List ObjectId → List ObjectId) (timed : ℤ → Option ℤ)
    (says : (r : Row) → Says r words (record { id = r.id; parents = cut r.parents; time = timed r.time; generation = None })) where
  abbrev pub IsReadSo : Info → Type 0
  IsReadSo = IsRead (λ i. cut (text_next objects i)) (λ i. timed (time_of objects i))

  has_text : (r : Row) → IsCommit (page_objects objects) [] r → IsText (page_objects objects) r
  has_text r (inl text) = text
  has_text r (inr (none, c)) = absurd (no_member r c)

  text_told : (info : Info) → IsThere (page_objects objects) [] info.id → IsReadSo info → IsTold (page_objects objects) words (told_of info)
  text_told info (r, is, commit) read =
      let h = fed_history objects r commit in
      let parents : info.parent_ids.items ≡ cut r.parents = read.same_parents ∙ ap (λ i. cut (text_next objects i)) (sym is) ∙ ap cut h.0 in
      let time : info.commit_time ≡ timed r.time = read.same_time ∙ ap (λ i. timed (time_of objects i)) (sym is) ∙ ap timed h.1 in
      let same : told_of info ≡ record { id = r.id; parents = cut r.parents; time = timed r.time; generation = None } = (λ k. record { id = sym is k; parents = parents k; time = time k; generation = read.same_generation k }) in
      (r, has_text r commit, subst (Says r words) (sym same) (says r))

  texts_told : (infos : List Info) → All (IsThere (page_objects objects) []) (ids_in infos) → AllByRecursion IsReadSo infos → AllByRecursion (IsTold (page_objects objects) words) (told_by infos)
  texts_told [] there read = tt
  texts_told (info ∷ infos) there read = (text_told info (All-head (IsThere (page_objects objects) []) info.id (ids_in infos) there) read.0, texts_told infos (All-tail (IsThere (page_objects objects) []) info.id (ids_in infos) there) read.1)

  -- commits that are listed, that are there, and that were read
  pub shows_read : (ended : Bool) (infos : List Info) → InEach (page_objects objects) [] (λ ps ts. page.Lists (page_objects objects) [] ps ts (flat_map id_line (ids_in infos)) ended words) → All (IsThere (page_objects objects) []) (ids_in infos)
      → AllByRecursion IsReadSo infos → Shows (page_objects objects) words (told_by infos) ended
  shows_read ended infos each there read = record {
    lists = subst (λ (bytes : List ℕ). InEach (page_objects objects) [] (λ ps ts. page.Lists (page_objects objects) [] ps ts bytes ended words)) (sym (told_lines infos)) each;
    texts = texts_told infos there read;
  }
