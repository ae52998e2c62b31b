use Rattle.std.proofs.Common.{◌≡◌, List, [], ◌++◌, ℕ, Bool, true, false, not, map, string_bytes, codes, refl, sym, ap}
use Rattle.std.specs.Prelude.{MatchBool}
use Rattle.gix_statement.specs.WholeStatement.{says_more}
use Rattle.gix_words.specs.Formats.{format_bytes}
use Rattle.gix_words.specs.Printed.{where_given}
use Rattle.gix_words.proofs.Appended.{joined, on_ok}
use Rattle.gix_words.proofs.print.push_fields.Goals as goal

-- the test whether a format is empty says whether it says more
is_said : (said : List ℕ) (t : Bool) → MatchBool t (said ≡ []) (says_more said ≡ true) → not t ≡ says_more said
is_said said true e = sym (ap says_more e)
is_said said false e = sym e

pub returns : goal.returns
returns c =
    let line = c.args.line.now in
    let time : List (List ℕ) = where_given line.time (codes "--timestamp") in
    let parents : List (List ℕ) = where_given line.parents (codes "--parents") in
    let title : List (List ℕ) = where_given (says_more (format_bytes line.format)) (codes "--oneline") in
    on_ok c.push_flag-3.result
    (λ last. joined (map string_bytes c.args.words.now.items) (map string_bytes c.push_flag.new.words.items) _ time (parents ++ title) _ _ c.in_ok-push_flag.ensures
    (joined (map string_bytes c.push_flag.new.words.items) _ _ parents title _ _ c.in_ok-push_flag-2.ensures last
    refl (ap (λ is. where_given is (codes "--oneline")) (is_said (format_bytes line.format) c.is_empty.result c.is_empty.ensures)))
    refl refl)
    c.push_flag-3.ensures
