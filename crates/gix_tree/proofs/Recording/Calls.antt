-- What calls leave of a recorder.
use Rattle.std.proofs.Common.{◌≡◌, ◌≢◌, ℕ, ◌+◌, ◌-◌, ◌<◌, ◌≤◌, List, [], ◌∷◌, ◌++◌, length, take, get_or, Option, Some, refl, sym, ap, ◌∙◌, subst, arith}
use Rattle.std.proofs.lemmas.List.{take_more}
use Rattle.gix_tree.specs.declared.recorder.Location.{Location}
use Rattle.gix_tree.proofs.Common.{Path, PopBack, Record, front_from, before_slash, path_or_empty, without_name, last_path, without_last}
use Rattle.gix_tree.specs.Tracked.{Tracked, tracked, Tracks}
use Rattle.gix_tree.proofs.Recording.Records.{not_here, last_slash, last_more, without_more}

last_plain : (bytes : List ℕ) (b : ℕ) → b ≢ 47 → before_slash (bytes ++ b ∷ []) ≡ before_slash bytes
last_plain [] b h = not_here b h
last_plain (c ∷ bytes) b h = ap (front_from c) (last_plain bytes b h)

one_more : (bytes : List ℕ) (n b : ℕ) → 0 < n → n ≤ length bytes → b ≡ get_or bytes (n - 1) b → take n bytes ≡ take (n - 1) bytes ++ b ∷ []
one_more bytes n b some within e =
    let is : n - 1 + 1 ≡ n = omega (arith, some) in
    subst (λ m. take m bytes ≡ take (n - 1) bytes ++ b ∷ []) is (take_more bytes (n - 1) b (omega (arith, some, within)) ∙ ap (λ c. take (n - 1) bytes ++ c ∷ []) (sym e))

-- a byte that is no `/`
pub without_plain : (bytes : List ℕ) (n b : ℕ) → 0 < n → n ≤ length bytes → b ≡ get_or bytes (n - 1) b → b ≢ 47 → without_name (take (n - 1) bytes) ≡ without_name (take n bytes)
without_plain bytes n b some within e plain = sym (ap without_name (one_more bytes n b some within e) ∙ ap path_or_empty (last_plain (take (n - 1) bytes) b plain))

-- the last `/`
pub without_slash : (bytes : List ℕ) (n b : ℕ) → 0 < n → n ≤ length bytes → b ≡ get_or bytes (n - 1) b → b ≡ 47 → take (n - 1) bytes ≡ without_name (take n bytes)
without_slash bytes n b some within e slash = sym (ap without_name (one_more bytes n b some within e ∙ ap (λ c. take (n - 1) bytes ++ c ∷ []) slash) ∙ ap path_or_empty (last_slash (take (n - 1) bytes) [] tt))

pub pops_last : (old : Tracked) (location : Option Location) (path last : List ℕ) (queue rest : List (List ℕ)) (records : List Record) → tracked location path queue records ≡ old → location ≡ Some Path → queue ≡ rest ++ last ∷ [] → Tracks old PopBack (tracked location last rest records)
pops_last old location path last queue rest records is at e =
    let newest : last ≡ last_path queue = sym (ap last_path e ∙ last_more rest last) in
    let others : rest ≡ without_last queue = sym (ap without_last e ∙ without_more rest last) in
    subst (λ o. Tracks o PopBack (tracked location last rest records)) is
    (subst (λ l. Tracks (tracked l path queue records) PopBack (tracked l last rest records)) (sym at)
    (refl, (tt, λ i. record { path = newest i; queue = others i; records = records })))
