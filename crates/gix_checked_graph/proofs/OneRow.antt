-- A worked file of one row, and its commit under the id that git prints.
use Rattle.std.proofs.Common.{◌≡◌, ◌≢◌, ℕ, zero, suc, ◌+◌, ◌*◌, ◌/◌, ◌^◌, ◌<◌, pos, List, [], ◌∷◌, ◌++◌, length, map, take, drop, Bool, true, false, slice_get, codes}
use Rattle.std.proofs.Common.{Option, Some, None, All, Contains, refl, sym, ap, subst, ◌∙◌, inl, inr, ⊎_elim, arith}
use Rattle.std.specs.Fmt.{digits}
use Rattle.std.proofs.lemmas.Option.{none-some, same_Some}
use Rattle.hex.proofs.OnLiterals.{hex_on_literals}
use Rattle.sha1.specs.Sha1.{sha1, first_words, add_state, compress, hash_after, initial_hash, digest_bytes, padded_message}
use Rattle.gix_hash.specs.Id.{is_same}
use Rattle.gix_hash.specs.declared.ObjectId.{ObjectId}
use Rattle.gix_hash.specs.declared.ObjectId.TheVariants.{Sha1}
use Rattle.gix_hash.proofs.Ids.Membership.{Contains-cons_cases, no_member, same_itself, same_is}
use Rattle.gix_statement.specs.WholeStatement.{AreNamed, IsHash, IsText, IsTime, Object, Objects, Row, Spells, kinds, positive}
use Rattle.gix_statement.specs.CommitGraph.{IsChunk, IsLayer, IsRow, bytes_at, number_at, none}
use Rattle.gix_statement.proofs.LayersOnce.{chunk_once}
use Rattle.gix_statement.proofs.Tests.{all_digits, is_hex, not_alone, other_head, without}
use Rattle.gix_names.proofs.Examples.ShortIds.{compressed, more_rounds, words_of}
use Rattle.gix_graph_pages.specs.GraphPages.{AreSoundLayers, IsSoundLayer, Layer, all_rows, width_of}
use Rattle.gix_checked_graph.specs.Checked.{AreChecked}

-- ---- the commit, as git stores it

abbrev pub tree_digits : List ℕ
tree_digits = codes "4b825dc642cb6eb9a060e54bf8d69288fbee4904"

abbrev lines : List ℕ
lines = codes "author A <a> 5 +0000\ncommitter A <a> 5 +0000\n\nOne\n"

abbrev text : List ℕ
text = codes "tree " ++ tree_digits ++ 10 ∷ lines

abbrev pub commit : Object
commit = record { kind = codes "commit"; bytes = text }

abbrev pub tree_bytes : List ℕ
tree_bytes = 0x4b ∷ 0x82 ∷ 0x5d ∷ 0xc6 ∷ 0x42 ∷ 0xcb ∷ 0x6e ∷ 0xb9 ∷ 0xa0 ∷ 0x60 ∷ 0xe5 ∷ 0x4b ∷ 0xf8 ∷ 0xd6 ∷ 0x92 ∷ 0x88 ∷ 0xfb ∷ 0xee ∷ 0x49 ∷ 0x04 ∷ []

abbrev id_bytes : List ℕ
id_bytes = 0xe5 ∷ 0x35 ∷ 0x8d ∷ 0xe1 ∷ 0x1f ∷ 0xbe ∷ 0x74 ∷ 0xbc ∷ 0x5a ∷ 0xf9 ∷ 0xdd ∷ 0xe5 ∷ 0xe7 ∷ 0x9d ∷ 0x05 ∷ 0xe9 ∷ 0x66 ∷ 0x07 ∷ 0xf0 ∷ 0xa5 ∷ []

abbrev pub one : Row
one = record { id = Sha1 id_bytes; tree = Sha1 tree_bytes; parents = []; time = pos 5 }

-- ---- its hash: a round is computed once, from the state before it

abbrev block_state : List ℕ → List ℕ → List ℕ
block_state h b = add_state h (more_rounds 80 h (words_of b) 0)

pub more_blocks : (m state next : List ℕ) (n : ℕ) → hash_after (padded_message m) n ≡ state → block_state state (take 64 (drop (n * 64) (padded_message m))) ≡ next → hash_after (padded_message m) (suc n) ≡ next
unfolding hash_after
more_blocks m state next n before e =
    ap (λ h. compress h (take 64 (drop (n * 64) (padded_message m)))) before ∙ compressed state (take 64 (drop (n * 64) (padded_message m))) ∙ e

pub all_blocks : (m last : List ℕ) (n : ℕ) → length (padded_message m) / 64 ≡ n → hash_after (padded_message m) n ≡ last → sha1 m ≡ digest_bytes last 5
unfolding sha1
all_blocks m last n count e = ap (λ n. digest_bytes (hash_after (padded_message m) n) 5) count ∙ ap (λ h. digest_bytes h 5) e

abbrev hashed : List ℕ
hashed = codes "commit" ++ 32 ∷ (digits 10 false (length text) ++ 0 ∷ text)

abbrev first : List ℕ
first = 0x3da9ff00 ∷ 0x8d989c0c ∷ 0xf6d04b34 ∷ 0xa92cb09d ∷ 0xdef8d2a2 ∷ []

abbrev last : List ℕ
last = 0xe5358de1 ∷ 0x1fbe74bc ∷ 0x5af9dde5 ∷ 0xe79d05e9 ∷ 0x6607f0a5 ∷ []

is_hash : IsHash one.id hashed
unfolding digits first_words digest_bytes hash_after
is_hash = sym (all_blocks hashed last 2 refl (more_blocks hashed first last 1 (more_blocks hashed initial_hash first 0 refl refl) refl))

-- ---- its objects

abbrev pub found : Object → Bool → Option Object
found o true = Some o
found o false = None

-- one object under one id
abbrev pub only : ObjectId → Object → Objects
only id o i = found o (is_same i id)

abbrev pub IsNamed : ObjectId → Object → Type 0
IsNamed i o = Contains kinds o.kind × IsHash i (o.kind ++ 32 ∷ (digits 10 false (length o.bytes) ++ 0 ∷ o.bytes))

pub only_named : (id : ObjectId) (o : Object) → IsNamed id o → AreNamed (only id o)
only_named id o is i other e = go (is_same i id) refl e
  where
    go : (b : Bool) → is_same i id ≡ b → found o b ≡ Some other → IsNamed i other
    go false s e = absurd (none-some other e)
    go true s e = subst (IsNamed i) (same_Some o other e) (subst (λ j. IsNamed j o) (sym (same_is i id s)) is)

abbrev pub there : Objects
there = only one.id commit

pub named : AreNamed there
named = only_named one.id commit ((2, omega arith, refl), is_hash)

time_said : IsTime lines (pos 5)
time_said = positive (codes "A <a") (codes "5 +0000") 1 5
    (codes "A <a> 5 +0000", codes "\nOne\n", without 10 (codes "A <a> 5 +0000") refl, without 10 (codes "A <a> 5 +0000") refl, refl)
    (without 62 (codes "5 +0000") refl)
    (codes "5", codes " +0000", refl, all_digits 10 (codes "5") refl, (λ d. absurd (omega (arith, d.0))), refl)
    (not_alone 32 (codes "5") refl) (not_alone 45 (codes "5") refl)

pub tree_spelled : Spells 40 tree_digits one.tree
unfolding hex_on_literals
tree_spelled = (refl, refl, is_hex tree_digits refl)

pub is_text : IsText there one
is_text = (tree_digits, lines, lines, tree_spelled, (refl, other_head 97 112 (codes "uthor ") (codes "arent ") refl), time_said, ap (found commit) (same_itself one.id))

-- ---- its file

abbrev data_bytes : List ℕ
data_bytes = tree_bytes ++ (0x70 ∷ 0 ∷ 0 ∷ 0 ∷ 0x70 ∷ 0 ∷ 0 ∷ 0 ∷ 0 ∷ 0 ∷ 0 ∷ 4 ∷ 0 ∷ 0 ∷ 0 ∷ 5 ∷ [])

abbrev table : List ℕ
table =
    codes "OIDL" ++ (0 ∷ 0 ∷ 0 ∷ 0 ∷ 0 ∷ 0 ∷ 0 ∷ 44 ∷ [])
    ++ (codes "CDAT" ++ (0 ∷ 0 ∷ 0 ∷ 0 ∷ 0 ∷ 0 ∷ 0 ∷ 64 ∷ []))
    ++ (0 ∷ 0 ∷ 0 ∷ 0 ∷ 0 ∷ 0 ∷ 0 ∷ 0 ∷ 0 ∷ 0 ∷ 0 ∷ 100 ∷ [])

abbrev pub file : List ℕ
file = codes "CGPH" ++ (1 ∷ 1 ∷ 2 ∷ 0 ∷ []) ++ table ++ id_bytes ++ data_bytes

ids_found : IsChunk file (codes "OIDL") id_bytes
ids_found = (0, omega arith, refl, (λ j l. absurd (omega (arith, l))), refl)

data_found : IsChunk file (codes "CDAT") data_bytes
data_found = (1, omega arith, refl, before, refl)
  where
    before : (j : ℕ) → j < 1 → bytes_at (8 + 12 * j) 4 file ≢ codes "CDAT"
    before zero l = other_head 79 67 (codes "IDL") (codes "DAT") refl
    before (suc j) l = absurd (omega (arith, l))

-- what holds of the first holds of all, where there are no others
pub only_one : {X : Type 0} (P : ℕ → X → Type 0) (x : X) → P 0 x → (k : ℕ) (y : X) → slice_get (x ∷ []) k ≡ Some y → P k y
only_one P x is zero y e = subst (P 0) (same_Some x y e) is
only_one P x is (suc k) y e = absurd (none-some y e)

has_row : IsLayer [] file [] (one ∷ [])
has_row = (
  20,
  id_bytes,
  data_bytes,
  [],
  refl,
  inl (refl, refl),
  refl,
  (λ k d l. absurd (omega (arith, l))),
  inl refl,
  ids_found,
  data_found,
  inr refl,
  refl,
  refl,
  only_one (IsRow 20 id_bytes data_bytes [] (one ∷ [])) one ([], refl, refl, refl, refl, none refl refl, refl, refl),
)

-- a file of one row whose generation is in the file's data
pub one_sound : (lower : List Layer) (file data_of : List ℕ) (r : Row) (generation : ObjectId → ℕ) → IsLayer (map (λ (l : Layer). l.file) lower) file (all_rows lower) (r ∷ []) → IsChunk file (codes "CDAT") data_of
    → generation r.id ≡ number_at ((width_of file + 16) * 0 + (width_of file + 8)) 8 data_of / 2 ^ 34 → IsSoundLayer lower (record { file = file; rows = r ∷ [] }) generation
one_sound lower file data_of r generation has chunk said = record {
  has = has;
  rising = λ i j d l m. absurd (omega (arith, l, m));
  said = λ bytes k s other. only_one (λ k (s : Row). generation s.id ≡ number_at ((width_of file + 16) * k + (width_of file + 8)) 8 bytes / 2 ^ 34) r
      (said ∙ ap (λ x. number_at ((width_of file + 16) * 0 + (width_of file + 8)) 8 x / 2 ^ 34) (chunk_once file (codes "CDAT") data_of bytes chunk other)) k s;
}

abbrev pub layer : Layer
layer = record { file = file; rows = one ∷ [] }

pub layer_sound : (generation : ObjectId → ℕ) → generation one.id ≡ 1 → IsSoundLayer [] layer generation
layer_sound generation is = one_sound [] file data_bytes one generation has_row data_found is

alone : (r : Row) → Contains (one ∷ []) r → one ≡ r
alone r m = ⊎_elim (λ e. e) (λ n. absurd (no_member r n)) (Contains-cons_cases r one [] m)

sound : AreSoundLayers (layer ∷ []) (λ i. 1)
sound = record { each = only_one (λ k those. IsSoundLayer (take k (layer ∷ [])) those (λ i. 1)) layer (layer_sound (λ i. 1) refl); falling = λ r m. subst (λ (s : Row). All (λ p. 1 < 1) s.parents) (alone r m) (λ k d l. absurd (omega (arith, l))) }

-- so there is a file that was compared with its commit
pub one_checked : AreChecked (layer ∷ []) there
one_checked = record {
  generation = λ i. 1;
  sound = sound;
  apart = λ i j d l m. absurd (omega (arith, l, m));
  named = named;
  texts = λ r m. subst (IsText there) (alone r m) is_text;
}
