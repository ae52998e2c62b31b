-- A worked chain of two files of one row each, and their commits under the ids that git prints: the second has the first as its parent.
use Rattle.std.proofs.Common.{◌≡◌, ◌≢◌, ℕ, zero, suc, ◌+◌, ◌*◌, ◌<◌, pos, List, [], ◌∷◌, ◌++◌, length, take, drop, Bool, true, false, slice_get, codes, Option, Some, None, All, AllPairs, Contains, refl, sym, ap, subst, ◌∙◌, inl, inr, ⊎_elim, arith}
use Rattle.std.specs.Fmt.{digits}
use Rattle.std.proofs.lemmas.List.Elements.{All-cons, All-nil}
use Rattle.std.proofs.lemmas.List.Kept.{AllPairs-cons}
use Rattle.std.proofs.lemmas.Option.{same_Some}
use Rattle.hex.proofs.OnLiterals.{hex_on_literals}
use Rattle.sha1.specs.Sha1.{first_words, hash_after, initial_hash, digest_bytes}
use Rattle.gix_hash.specs.Id.{is_same}
use Rattle.gix_hash.specs.declared.ObjectId.{ObjectId}
use Rattle.gix_hash.specs.declared.ObjectId.TheVariants.{Sha1}
use Rattle.gix_hash.proofs.Ids.Membership.{Contains-cons_cases, no_member, same_itself}
use Rattle.gix_statement.specs.WholeStatement.{AreNamed, IsHash, IsText, IsTime, Object, Objects, Row, Spells, bytes_in, positive}
use Rattle.gix_statement.specs.CommitGraph.{IsChunk, IsLayer, IsRow, bytes_at, number_at, single}
use Rattle.gix_statement.proofs.Tests.{all_digits, is_hex, not_alone, other_head, without}
use Rattle.gix_commands.proofs.RowsAsTexts.{text_moves}
use Rattle.gix_graph_pages.specs.GraphPages.{AreSoundLayers, IsSoundLayer, Layer}
use Rattle.gix_checked_graph.specs.Checked.{AreChecked}
use Rattle.gix_checked_graph.proofs.AnswersCarried.{first_of, joined}
use Rattle.gix_checked_graph.proofs.OneRow.{IsNamed, all_blocks, file, found, is_text, layer, layer_sound, more_blocks, named, one, one_sound, only, only_named, only_one, there, tree_bytes, tree_digits, tree_spelled}

-- ---- the second commit, as git stores it

abbrev parent_digits : List ℕ
parent_digits = codes "e5358de11fbe74bc5af9dde5e79d05e96607f0a5"

abbrev rest : List ℕ
rest = codes "author A <a> 6 +0000\ncommitter A <a> 6 +0000\n\nTwo\n"

abbrev lines : List ℕ
lines = codes "parent " ++ parent_digits ++ 10 ∷ rest

abbrev text : List ℕ
text = codes "tree " ++ tree_digits ++ 10 ∷ lines

abbrev commit : Object
commit = record { kind = codes "commit"; bytes = text }

abbrev id_bytes : List ℕ
id_bytes = 0xc0 ∷ 0x14 ∷ 0x0a ∷ 0x2b ∷ 0xc5 ∷ 0x19 ∷ 0x3f ∷ 0x22 ∷ 0x47 ∷ 0x5f ∷ 0x4b ∷ 0x67 ∷ 0x19 ∷ 0xc3 ∷ 0x5c ∷ 0x12 ∷ 0x1d ∷ 0xd6 ∷ 0x50 ∷ 0xdb ∷ []

abbrev two : Row
two = record { id = Sha1 id_bytes; tree = Sha1 tree_bytes; parents = one.id ∷ []; time = pos 6 }

-- ---- its hash

abbrev hashed : List ℕ
hashed = codes "commit" ++ 32 ∷ (digits 10 false (length text) ++ 0 ∷ text)

abbrev first : List ℕ
first = 0x6162d74a ∷ 0x5450101a ∷ 0x02f03ffb ∷ 0x31bceb6d ∷ 0x194f278d ∷ []

abbrev second : List ℕ
second = 0x1b370610 ∷ 0xc1bce0ad ∷ 0xb7d0c3c2 ∷ 0xbacb0487 ∷ 0xdf910637 ∷ []

abbrev last : List ℕ
last = 0xc0140a2b ∷ 0xc5193f22 ∷ 0x475f4b67 ∷ 0x19c35c12 ∷ 0x1dd650db ∷ []

is_hash : IsHash two.id hashed
unfolding digits first_words digest_bytes hash_after
is_hash = sym (all_blocks hashed last 3 refl (more_blocks hashed second last 2 (more_blocks hashed first second 1 (more_blocks hashed initial_hash first 0 refl refl) refl) refl))

-- ---- the objects of both

abbrev both : Objects
both = joined there (only two.id commit)

both_named : AreNamed both
both_named i o e = go (there i) refl e
  where
    go : (x : Option Object) → there i ≡ x → first_of x (only two.id commit i) ≡ Some o → IsNamed i o
    go None at e = only_named two.id commit ((2, omega arith, refl), is_hash) i o e
    go (Some x) at e = named i o (at ∙ e)

time_said : IsTime rest (pos 6)
time_said = positive (codes "A <a") (codes "6 +0000") 1 6
    (codes "A <a> 6 +0000", codes "\nTwo\n", without 10 (codes "A <a> 6 +0000") refl, without 10 (codes "A <a> 6 +0000") refl, refl)
    (without 62 (codes "6 +0000") refl)
    (codes "6", codes " +0000", refl, all_digits 10 (codes "6") refl, (λ d. absurd (omega (arith, d.0))), refl)
    (not_alone 32 (codes "6") refl) (not_alone 45 (codes "6") refl)

parent_spelled : Spells 40 parent_digits one.id
unfolding hex_on_literals
parent_spelled = (refl, refl, is_hex parent_digits refl)

one_text : IsText both one
one_text = text_moves there both one (λ o e. ap (λ x. first_of x (only two.id commit one.id)) e) is_text

two_text : IsText both two
two_text = (
  tree_digits,
  lines,
  rest,
  tree_spelled,
  (parent_digits, rest, parent_spelled, (refl, other_head 97 112 (codes "uthor ") (codes "arent ") refl), refl),
  time_said,
  ap (found commit) (same_itself two.id),
)

-- ---- the second file, which names the first by its last bytes, as if they were its hash

abbrev base : List ℕ
base = drop 80 file

abbrev data_bytes : List ℕ
data_bytes = tree_bytes ++ (0 ∷ 0 ∷ 0 ∷ 0 ∷ 0x70 ∷ 0 ∷ 0 ∷ 0 ∷ 0 ∷ 0 ∷ 0 ∷ 8 ∷ 0 ∷ 0 ∷ 0 ∷ 6 ∷ [])

abbrev table : List ℕ
table =
    codes "OIDL" ++ (0 ∷ 0 ∷ 0 ∷ 0 ∷ 0 ∷ 0 ∷ 0 ∷ 56 ∷ [])
    ++ (codes "CDAT" ++ (0 ∷ 0 ∷ 0 ∷ 0 ∷ 0 ∷ 0 ∷ 0 ∷ 76 ∷ []))
    ++ (codes "BASE" ++ (0 ∷ 0 ∷ 0 ∷ 0 ∷ 0 ∷ 0 ∷ 0 ∷ 112 ∷ []))
    ++ (0 ∷ 0 ∷ 0 ∷ 0 ∷ 0 ∷ 0 ∷ 0 ∷ 0 ∷ 0 ∷ 0 ∷ 0 ∷ 132 ∷ [])

abbrev upper_file : List ℕ
upper_file = codes "CGPH" ++ (1 ∷ 1 ∷ 3 ∷ 1 ∷ []) ++ table ++ id_bytes ++ data_bytes ++ base

ids_found : IsChunk upper_file (codes "OIDL") id_bytes
ids_found = (0, omega arith, refl, (λ j l. absurd (omega (arith, l))), refl)

data_found : IsChunk upper_file (codes "CDAT") data_bytes
data_found = (1, omega arith, refl, before, refl)
  where
    before : (j : ℕ) → j < 1 → bytes_at (8 + 12 * j) 4 upper_file ≢ codes "CDAT"
    before zero l = other_head 79 67 (codes "IDL") (codes "DAT") refl
    before (suc j) l = absurd (omega (arith, l))

base_found : IsChunk upper_file (codes "BASE") base
base_found = (2, omega arith, refl, before, refl)
  where
    before : (j : ℕ) → j < 2 → bytes_at (8 + 12 * j) 4 upper_file ≢ codes "BASE"
    before zero l = other_head 79 66 (codes "IDL") (codes "ASE") refl
    before (suc zero) l = other_head 67 66 (codes "DAT") (codes "ASE") refl
    before (suc (suc j)) l = absurd (omega (arith, l))

has_row : IsLayer (file ∷ []) upper_file (one ∷ []) (two ∷ [])
has_row = (
  20,
  id_bytes,
  data_bytes,
  [],
  refl,
  inl (refl, refl),
  refl,
  All-cons (λ other. number_at 5 1 other ≡ 1) file [] refl (All-nil _),
  inr base_found,
  ids_found,
  data_found,
  inr refl,
  refl,
  refl,
  only_one (IsRow 20 id_bytes data_bytes [] (one ∷ two ∷ [])) two (0 ∷ [], refl, refl, refl, refl, single (λ n. omega (arith, n)) refl, refl, refl),
)

-- ---- the chain

abbrev upper : Layer
upper = record { file = upper_file; rows = two ∷ [] }

abbrev level : Bool → ℕ
level true = 1
level false = 2

abbrev generation : ObjectId → ℕ
generation i = level (is_same i one.id)

each_layer : (k : ℕ) (those : Layer) → slice_get (layer ∷ upper ∷ []) k ≡ Some those → IsSoundLayer (take k (layer ∷ upper ∷ [])) those generation
each_layer zero those e = subst (λ (those : Layer). IsSoundLayer [] those generation) (same_Some layer those e) (layer_sound generation refl)
each_layer (suc k) those e =
    only_one (λ k those. IsSoundLayer (take (suc k) (layer ∷ upper ∷ [])) those generation) upper (one_sound (layer ∷ []) upper_file data_bytes two generation has_row data_found refl) k those e

each_row : (P : Row → Type 0) → P one → P two → (r : Row) → Contains (one ∷ two ∷ []) r → P r
each_row P lower higher r m = ⊎_elim
    (λ e. subst P e lower)
    (λ n. ⊎_elim (λ e. subst P e higher) (λ o. absurd (no_member r o)) (Contains-cons_cases r two [] n))
    (Contains-cons_cases r one (two ∷ []) m)

sound : AreSoundLayers (layer ∷ upper ∷ []) generation
sound = record {
  each = each_layer;
  falling = each_row (λ r. All (λ p. generation p < generation r.id) r.parents) (All-nil _) (All-cons (λ p. generation p < 2) one.id [] (omega arith) (All-nil _));
}

apart : AllPairs (λ (r s : Row). r.id ≢ s.id) (one ∷ two ∷ [])
apart = AllPairs-cons (λ (r s : Row). r.id ≢ s.id) one (two ∷ []) (All-cons (λ (s : Row). one.id ≢ s.id) two [] differ (All-nil _)) (λ i j d l m. absurd (omega (arith, l, m)))
  where
    differ : one.id ≢ two.id
    differ e = other_head 0xe5 0xc0 (drop 1 (bytes_in one.id)) (drop 1 id_bytes) refl (ap bytes_in e)

-- so there is a chain that was compared with its commits
pub two_checked : AreChecked (layer ∷ upper ∷ []) both
two_checked = record { generation = generation; sound = sound; apart = apart; named = both_named; texts = each_row (IsText both) one_text two_text }
