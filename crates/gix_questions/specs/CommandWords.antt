-- The words of the page that a question is, over the ids that its revisions stand for.
use Rattle.std.specs.Prelude.{◌++◌, ◌∷◌, ℕ, List, [], false, map, reverse, Option, Some, None, if◌then◌else◌, option_map, codes}
use Rattle.std.specs.Fmt.{decimal}
use Rattle.gix_hash.specs.declared.ObjectId.{ObjectId}
use Rattle.gix_options.specs.OptionWords.{is_list, option_words, order_options}
use Rattle.gix_options.specs.declared.name.Name.{Name}
use Rattle.gix_options.specs.declared.name.Name.TheVariants as name
use Rattle.gix_options.specs.declared.options.Options.{Options}
use Rattle.gix_revwalk.specs.Ids.{new_ids}
use Rattle.gix_words.specs.Printed.{id_word, several_words, valued, where_given}

-- The tips of a list, each at its first place. Of tips of one second `topo` begins with the last, and git with the first.
abbrev pub list_tips : Name → List ObjectId → List ObjectId
list_tips name.Topo tips = reverse (new_ids (λ i. false) tips)
list_tips other tips = new_ids (λ i. false) tips

abbrev pub words_of_list : Name → Options → (tips hidden : List ObjectId) → List (List ℕ)
words_of_list n o tips hidden = order_options n o ++ (option_words o ++ (map (id_word []) (list_tips n tips) ++ map (id_word (codes "^")) hidden))

-- the words of what is asked of these ids and isn't a list, if a command answers it
abbrev pub other_words : Name → Options → List ObjectId → Option (List (List ℕ))
other_words name.Files o (tree ∷ []) = Some (codes "files" ∷ (valued (codes "-n") (option_map decimal o.limit) ++ (where_given o.ends_in_zero (codes "-z") ++ id_word [] tree ∷ [])))
other_words name.Ahead o (one ∷ other ∷ []) = Some (several_words (codes "ahead") one (other ∷ []))
-- whether the other reaches the one
other_words name.IsAncestor o (one ∷ other ∷ []) = Some (several_words (codes "contains") other (one ∷ []))
other_words name.Contains o (tip ∷ one ∷ ids) = Some (several_words (codes "contains") tip (one ∷ ids))
other_words name.Containing o (target ∷ one ∷ tips) = Some (several_words (codes "containing") target (one ∷ tips))
other_words name.MergeBase o (one ∷ other ∷ others) = Some (several_words (codes "merge-base") one (other ∷ others))
other_words n o ids = None

abbrev pub command_words : Name → Options → (tips hidden : List ObjectId) → Option (List (List ℕ))
command_words n o tips hidden = if is_list n then Some (words_of_list n o tips hidden) else other_words n o tips
