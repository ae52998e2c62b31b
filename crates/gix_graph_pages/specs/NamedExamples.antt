-- Worked heads of files. An upper file names the one below it; and pages of which a run says nothing: of a file that isn't git's, of another
-- version, of another number of files below, and of a chain whose upper file names another lower one.
use Rattle.std.specs.Prelude.{◌≡◌, ℕ, zero, suc, ◌+◌, ◌*◌, ◌<◌, List, [], ◌∷◌, ◌++◌, length, take, drop, replicate, slice_get, codes, Option, Some, All, refl}
use Rattle.std.proofs.lemmas.Option.{none-some, same_Some}
use Rattle.std.proofs.Common.{sym, subst, ap, ◌∙◌, arith, inl, inr, ⊎_elim}
use Rattle.gix_statement.specs.CommitGraph.{IsChunk, bytes_at, number_at}
use Rattle.gix_statement.proofs.LayersOnce.{chunk_once}
use Rattle.gix_graph_pages.specs.GraphPages.{HavePages}
use Rattle.gix_graph_pages.specs.NamedBelow.{AreNamedBelow, HaveAll, NamesBelow, own_hash}
use Rattle.gix_graph_pages.specs.ChainExample.{whole_page}

-- ---- a file without chunks, whose hash is said to be of these bytes, and one that has such a hash in its chunk BASE

abbrev pub lower_file : (hash : List ℕ) → List ℕ
lower_file hash = codes "CGPH" ++ (1 ∷ 1 ∷ 0 ∷ 0 ∷ []) ++ (0 ∷ 0 ∷ 0 ∷ 0 ∷ 0 ∷ 0 ∷ 0 ∷ 0 ∷ 0 ∷ 0 ∷ 0 ∷ 20 ∷ []) ++ hash

abbrev pub upper_file : (named hash : List ℕ) → List ℕ
upper_file named hash = codes "CGPH" ++ (1 ∷ 1 ∷ 1 ∷ 1 ∷ [])
    ++ (codes "BASE" ++ (0 ∷ 0 ∷ 0 ∷ 0 ∷ 0 ∷ 0 ∷ 0 ∷ 32 ∷ []))
    ++ (0 ∷ 0 ∷ 0 ∷ 0 ∷ 0 ∷ 0 ∷ 0 ∷ 0 ∷ 0 ∷ 0 ∷ 0 ∷ 52 ∷ [])
    ++ named ++ hash

abbrev pub one : List ℕ
one = replicate 20 0x11

abbrev pub two : List ℕ
two = replicate 20 0x22

abbrev pub other : List ℕ
other = replicate 20 0x33

pub one_is_last : own_hash (lower_file one) ≡ one
one_is_last = refl

base_named : IsChunk (upper_file one two) (codes "BASE") one
base_named = (0, omega arith, refl, (λ j l. absurd (omega (arith, l))), refl)

pub lower_named : NamesBelow [] (lower_file one)
lower_named = record { begins = refl; kind = inl refl; kinds = λ k d l. absurd (omega (arith, l)); number = refl; base = inl refl }

pub upper_named : NamesBelow (lower_file one ∷ []) (upper_file one two)
upper_named = record { begins = refl; kind = inl refl; kinds = one_kind; number = refl; base = inr base_named }
  where
    one_kind : All (λ below. number_at 5 1 below ≡ number_at 5 1 (upper_file one two)) (lower_file one ∷ [])
    one_kind zero d l = refl
    one_kind (suc k) d l = absurd (omega (arith, l))

-- ---- pages of which nothing is said

-- a file of whose first page all bytes were read
one_file : (file : List ℕ) → bytes_at 0 (length file) file ≡ file → HaveAll ((Some file ∷ []) ∷ []) (file ∷ [])
one_file file whole = record { count = refl; has = has }
  where
    has : (k : ℕ) (own : List ℕ) → slice_get (file ∷ []) k ≡ Some own → (pages : List (Option (List ℕ))) → slice_get ((Some file ∷ []) ∷ []) k ≡ Some pages → HavePages own pages
    has zero own e pages at = subst (λ x. HavePages x pages) (same_Some file own e) (whole_page file pages whole (same_Some (Some file ∷ []) pages at))
    has (suc k) own e pages at = absurd (none-some own e)

-- a file alone is the lowest
alone : (file : List ℕ) → bytes_at 0 (length file) file ≡ file → AreNamedBelow ((Some file ∷ []) ∷ []) → NamesBelow [] file
alone file whole named = named (file ∷ []) (one_file file whole) 0 file refl

first_differs : (a b : ℕ) (xs ys : List ℕ) → (a ≡ b → ⊥) → a ∷ xs ≡ b ∷ ys → ⊥
first_differs a b xs ys differ e = differ cc

-- it doesn't begin as git's do
pub other_signature : AreNamedBelow ((Some (0 ∷ []) ∷ []) ∷ []) → ⊥
other_signature named = first_differs 0 67 [] (codes "GPH" ++ 1 ∷ []) (λ e. omega (arith, e)) (alone (0 ∷ []) refl named).begins

-- its version is 2
abbrev second_version : List ℕ
second_version = codes "CGPH" ++ (2 ∷ 1 ∷ 0 ∷ 0 ∷ [])

pub other_version : AreNamedBelow ((Some second_version ∷ []) ∷ []) → ⊥
other_version named = first_differs 2 1 [] [] (λ e. omega (arith, e)) (ap (drop 4) (alone second_version refl named).begins)

-- it says that a file is below
abbrev says_one : List ℕ
says_one = codes "CGPH" ++ (1 ∷ 1 ∷ 0 ∷ 1 ∷ [])

pub other_number : AreNamedBelow ((Some says_one ∷ []) ∷ []) → ⊥
other_number named = let no : ◌≡◌ {A = ℕ} 1 0 = (alone says_one refl named).number in omega (arith, no)

-- it names another file than that below it
two_files : HaveAll ((Some (lower_file other) ∷ []) ∷ (Some (upper_file one two) ∷ []) ∷ []) (lower_file other ∷ upper_file one two ∷ [])
two_files = record { count = refl; has = has }
  where
    has : (k : ℕ) (file : List ℕ) → slice_get (lower_file other ∷ upper_file one two ∷ []) k ≡ Some file → (pages : List (Option (List ℕ)))
        → slice_get ((Some (lower_file other) ∷ []) ∷ (Some (upper_file one two) ∷ []) ∷ []) k ≡ Some pages → HavePages file pages
    has zero file e pages at = subst (λ x. HavePages x pages) (same_Some (lower_file other) file e) (whole_page (lower_file other) pages refl (same_Some (Some (lower_file other) ∷ []) pages at))
    has (suc zero) file e pages at = subst (λ x. HavePages x pages) (same_Some (upper_file one two) file e) (whole_page (upper_file one two) pages refl (same_Some (Some (upper_file one two) ∷ []) pages at))
    has (suc (suc k)) file e pages at = absurd (none-some file e)

pub other_base : AreNamedBelow ((Some (lower_file other) ∷ []) ∷ (Some (upper_file one two) ∷ []) ∷ []) → ⊥
other_base named = ⊎_elim
    (λ none. let no : 1 ≡ 0 = ap length none in omega (arith, no))
    (λ base. first_differs 0x11 0x33 (drop 1 one) (drop 1 other) (λ e. omega (arith, e)) (chunk_once (upper_file one two) (codes "BASE") one other base_named base))
    (named (lower_file other ∷ upper_file one two ∷ []) two_files 1 (upper_file one two) refl).base
