-- What the pages of a file are.
use Rattle.std.proofs.Common.{◌≡◌, ℕ, zero, suc, ◌+◌, ◌*◌, ◌/◌, ◌%◌, ◌<◌, ◌≤◌, List, [], ◌∷◌, length, take, drop, map, slice_get, get_or, Option, Some, None, refl, sym, ap, ◌∙◌, arith}
use Rattle.std.specs.Option.{option_map}
use Rattle.std.proofs.lemmas.Option.{slice_get_read}
use Rattle.gix_graph_pages.specs.GraphPages.{IsFileOf}
use Rattle.gix_graph_pages.proofs.Takes.{part_of}
use Rattle.gix_statement.specs.CommitGraph.{bytes_at}

viewed : {X Y : Type 0} (f : X → Y) (pages : List X) (k : ℕ) (page : X) → slice_get pages k ≡ Some page → slice_get (map f pages) k ≡ Some (f page)
viewed f [] k page e = absurd (let no : None ≡ Some page = e in cc)
viewed f (p ∷ pages) zero page e = let same : p ≡ page = cc in ap (λ x. Some (f x)) same
viewed f (p ∷ pages) (suc k) page e = viewed f pages k page e

-- what is at a number, as it is seen
pub seen_at : {X Y : Type 0} (f : X → Y) (pages items : List X) (seen : List Y) (k : ℕ) (found : X) → pages ≡ items → map f items ≡ seen → k < length pages → found ≡ get_or pages k found → slice_get seen k ≡ Some (f found)
seen_at f pages items seen k found are view within read =
    let there : slice_get pages k ≡ Some found = slice_get_read pages (length pages) k found refl within read in
    ap (λ s. slice_get s k) (sym view ∙ ap (map f) (sym are)) ∙ viewed f pages k found there

pub page_part : (pages : List (List (Option (List ℕ)))) (own : List (Option (List ℕ))) (layer place count : ℕ) (page : List ℕ) → slice_get pages layer ≡ Some own → slice_get own (place / 4096) ≡ Some (Some page) → (place % 4096) + count ≤ length page
    → (file : List ℕ) → IsFileOf pages layer file → bytes_at place count file ≡ take count (drop (place % 4096) page)
page_part pages own layer place count page of there fits file has =
    let at : place ≡ 4096 * (place / 4096) + place % 4096 = omega arith in
    sym (part_of (4096 * (place / 4096)) (length page) (place % 4096) count place file fits at) ∙ ap (λ bytes. bytes_at (place % 4096) count bytes) (has own of (place / 4096) page there)
