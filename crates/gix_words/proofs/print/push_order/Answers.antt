use Rattle.std.proofs.Common.{List, [], ◌∷◌, ◌++◌, ℕ, map, string_bytes, codes, refl, ap}
use Rattle.std.specs.Fmt.{signed_decimal}
use Rattle.std.specs.Option.{option_map}
use Rattle.gix_words.specs.Printed.{cutoff_in, where_given, is_first_only, order_name, valued}
use Rattle.gix_words.proofs.Appended.{joined, on_ok}
use Rattle.gix_words.proofs.print.push_order.Goals as goal

pub returns : goal.returns
returns c =
    let by = c.args.order.now in
    let name : List (List ℕ) = order_name by ∷ [] in
    let option : List (List ℕ) = where_given (is_first_only by) (codes "--first-parent") in
    let cutoff : List (List ℕ) = valued (codes "--since") (option_map signed_decimal (cutoff_in by)) in
    on_ok c.push_time.result
    (λ last. joined (map string_bytes c.args.words.now.items) (map string_bytes c.push_word.new.words.items) _ name (option ++ cutoff) _ _ c.in_ok-push_word.ensures
    (joined (map string_bytes c.push_word.new.words.items) _ _ option cutoff _ _ c.in_ok-push_flag.ensures last
    (ap (λ is. where_given is (codes "--first-parent")) c.is_first_only.ensures) (ap (λ time. valued (codes "--since") (option_map signed_decimal time)) c.cutoff_in.ensures))
    (ap (λ text. text ∷ []) c.name_of.ensures) refl)
    c.push_time.ensures
