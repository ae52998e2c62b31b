-- What a text says, by what is found in its value.
use Rattle.std.proofs.Common.{◌≡◌, ℕ, List, [], ◌∷◌, ◌++◌, codes, map, Option, Some, option_and_then, unwrap_or, refl, sym, ap, ◌∙◌}
use Rattle.std.proofs.lemmas.List.{append_cancel_right}
use Rattle.std.proofs.lemmas.Option.{same_Some}
use Rattle.serde_json.specs.Data.{Data, null, Items, no_items, item}
use Rattle.serde_json.specs.Find.{get, as_array, as_number, as_str, as_u64}
use Rattle.serde_json.specs.Read.{read}
use Rattle.serde_json.specs.View.{items_of}
use Rattle.serde_json.proofs.OnLiterals.{serde_json_on_literals}
use Rattle.gix_certificate.specs.declared.record.Certificate.{Certificate}
use Rattle.gix_certificate.specs.Written.{OneTextSaysOne, IsLineOf, SaysTheSame, certificate_data, page_data, revision_data, text_data}

same_data : (a b : Data) (text : List ℕ) → IsLineOf a text → IsLineOf b text → a ≡ b
same_data a b text (json, written, says) (other, also, reads) =
    let same = append_cancel_right json other (10 ∷ []) (sym written ∙ also) in
    same_Some a b (sym says ∙ ap read same ∙ reads)

abbrev field : List ℕ → Data → Data
field name data_of = unwrap_or (get name data_of) null

abbrev number_in : Data → ℕ
number_in value = unwrap_or (option_and_then as_u64 (as_number value)) 0

abbrev text_in : Data → List ℕ
text_in value = unwrap_or (as_str value) []

abbrev list_of : Items → List Data
list_of no_items = []
list_of (item first rest) = first ∷ list_of rest

abbrev list_in : Data → List Data
list_in value = unwrap_or (option_and_then (λ items. Some (list_of items)) (as_array value)) []

list_of-items_of : (xs : List Data) → list_of (items_of xs) ≡ xs
list_of-items_of [] = refl
list_of-items_of (x ∷ xs) = ap (λ (rest : List Data). x ∷ rest) (list_of-items_of xs)

same_list : (xs ys : List Data) → list_of (items_of xs) ≡ list_of (items_of ys) → xs ≡ ys
same_list xs ys e = sym (list_of-items_of xs) ∙ e ∙ list_of-items_of ys

found : (s t : Data) (a b : Certificate) → certificate_data s a ≡ certificate_data t b → SaysTheSame a b
unfolding serde_json_on_literals
found s t a b e = (
  ap (λ d. number_in (field (codes "status") d)) e,
  ap (λ d. number_in (field (codes "bytes") (field (codes "output") d))) e,
  ap (λ d. field (codes "sha256") (field (codes "output") d)) e,
  ap (λ d. text_in (field (codes "rows") d)) e,
  same_list (map text_data a.words.items) (map text_data b.words.items) (ap (λ d. list_in (field (codes "words") d)) e),
  same_list (map text_data a.lines.items) (map text_data b.lines.items) (ap (λ d. list_in (field (codes "lines") d)) e),
  same_list (map text_data a.question.items) (map text_data b.question.items) (ap (λ d. list_in (field (codes "question") d)) e),
  same_list (map revision_data a.revisions.items) (map revision_data b.revisions.items) (ap (λ d. list_in (field (codes "revisions") d)) e),
  ap (λ d. field (codes "program") d) e,
  same_list (map page_data a.pages.items) (map page_data b.pages.items) (ap (λ d. list_in (field (codes "pages") d)) e),
)

pub says_the_same : OneTextSaysOne
says_the_same a b text (bare, of_bare, written) (other, of_other, read_back) =
    found _ _ a b (same_data _ _ text written read_back)
