-- What the reader has found of a file that it takes: its head, its chunks and their sizes.
use Rattle.std.proofs.Common.{◌≡◌, ℕ, ◌+◌, ◌-◌, ◌*◌, ◌≤◌, Bool, true, false, not, cond, eqb, ltb, List, [], ◌∷◌, ◌++◌, take, length, codes, slice_index, Option, Some, None, Result, Ok, Err, refl, sym, ap, subst, ◌∙◌, arith, ⊎_elim, eqb-true, ltb-false, nat_eq}
use Rattle.std.specs.Cmp.Lexicographic.{same_text}
use Rattle.std.specs.List.{starts_with}
use Rattle.std.specs.Option.{ok_or, unwrap_or}
use Rattle.std.proofs.lemmas.List.{take_more}
use Rattle.gix_hash.specs.declared.Kind.{Kind}
use Rattle.gix_hash.specs.declared.Kind.TheVariants as kind
use Rattle.gix_hash.specs.Id.{id_len}
use Rattle.gix_commitgraph.proofs.Packed.Takes.{chosen}
use Rattle.gix_graph_file.specs.declared.error.Error.{Error}
use Rattle.gix_graph_file.specs.declared.error.Error.TheVariants as error
use Rattle.gix_graph_file.specs.declared.error.Chunk.{Chunk}
use Rattle.gix_graph_file.specs.declared.error.Chunk.TheVariants as chunk
use Rattle.gix_graph_file.specs.FileTable.{◌>>=◌, kind_placed, kind_said, chunk_count, table_len, chunk_from, name_of, needed, Parts, sized_parts, parts_of, read_layer}
use Rattle.gix_statement.specs.CommitGraph.{number_at, bytes_at}
use Rattle.gix_commands.proofs.FileNumbers.{byte_is}

-- ---- what was read well

pub no_ok : {A : Type 0} (f : Error) (x : A) → ◌≡◌ {A = Result A Error} (Err f) (Ok x) → ⊥
no_ok f x e = cc

pub ok_is : {A : Type 0} (x y : A) → ◌≡◌ {A = Result A Error} (Ok x) (Ok y) → x ≡ y
ok_is x y e = cc

pub then_is : {A B : Type 0} (read : Result A Error) (more : A → Result B Error) (y : B) → (read >>= more) ≡ Ok y → (a : A) × (read ≡ Ok a) × (more a ≡ Ok y)
then_is (Ok a) more y e = (a, refl, e)
then_is (Err f) more y e = absurd (no_ok f y e)

-- no fault
pub passed : {A : Type 0} (b : Bool) (f : Error) (x : Result A Error) (y : A) → cond b (Err f) x ≡ Ok y → (b ≡ false) × (x ≡ Ok y)
passed true f x y e = absurd (no_ok f y e)
passed false f x y e = (refl, e)

pub true_is : (b : Bool) → not b ≡ false → b ≡ true
true_is true e = refl
true_is false e = cc

-- ---- the head

abbrev pub version : Kind → ℕ
version kind.Sha1 = 1
version kind.Sha256 = 2

pub record IsHead (number : ℕ) (file : List ℕ) (k : Kind) : Type 0 where
  pub long : 8 ≤ length file
  pub letters : bytes_at 0 5 file ≡ codes "CGPH" ++ 1 ∷ []
  pub version_is : number_at 5 1 file ≡ version k
  pub layers : number_at 7 1 file ≡ number

placed_is : (number layers : ℕ) (j k : Kind) → kind_placed number layers j ≡ Ok k → (layers ≡ number) × (j ≡ k)
placed_is number layers j k e = ⊎_elim (λ h. (eqb-true layers number h.0, ok_is j k h.1)) (λ h. absurd (no_ok error.Layer k h.1)) (chosen (eqb layers number) (Ok j) (Err error.Layer) (Ok k) e)

letters_are : (file : List ℕ) → 8 ≤ length file → starts_with nat_eq file (codes "CGPH") ≡ true → slice_index file 4 ≡ 1 → bytes_at 0 5 file ≡ codes "CGPH" ++ 1 ∷ []
letters_are file long starts one =
    let four : codes "CGPH" ≡ take 4 file = same_text (codes "CGPH") (take 4 file) (sym starts) in
    take_more file 4 0 (omega (arith, long)) ∙ (λ i. sym four i ++ one i ∷ [])

pub head_is : (number : ℕ) (file : List ℕ) (k : Kind) → kind_said number file ≡ Ok k → IsHead number file k
head_is number file k e =
    let a = passed (ltb (length file) 8) error.Header _ k e in
    let b = passed (not (starts_with nat_eq file (codes "CGPH"))) error.Signature _ k a.1 in
    let c = passed (not (eqb (slice_index file 4) 1)) error.Version _ k b.1 in
    let long = ltb-false (length file) 8 a.0 in
    let letters = letters_are file long (true_is _ b.0) (eqb-true (slice_index file 4) 1 (true_is _ c.0)) in
    let head : (j : Kind) → slice_index file 5 ≡ version j → kind_placed number (slice_index file 7) j ≡ Ok k → IsHead number file k =
    (λ j is e. let p = placed_is number (slice_index file 7) j k e in
    subst (IsHead number file) p.1 (record { long = long; letters = letters; version_is = byte_is 5 file (omega (arith, long)) ∙ is; layers = byte_is 7 file (omega (arith, long)) ∙ p.0 })) in
    ⊎_elim
    (λ h. head kind.Sha1 (eqb-true (slice_index file 5) 1 h.0) h.1)
    (λ h. ⊎_elim
    (λ g. head kind.Sha256 (eqb-true (slice_index file 5) 2 g.0) g.1)
    (λ g. absurd (no_ok error.HashVersion k g.1))
    (chosen (eqb (slice_index file 5) 2) (kind_placed number (slice_index file 7) kind.Sha256) (Err error.HashVersion) (Ok k) h.1))
    (chosen (eqb (slice_index file 5) 1) (kind_placed number (slice_index file 7) kind.Sha1) _ (Ok k) c.1)

-- ---- the chunks

abbrev pub chunk_of : List ℕ → Chunk → Option (List ℕ)
chunk_of file c = chunk_from file (name_of c) (chunk_count file) 0

pub record HasChunks (file : List ℕ) (p : Parts) : Type 0 where
  pub fits : table_len (chunk_count file) ≤ length file - id_len p.kind
  pub ids : chunk_of file chunk.Ids ≡ Some p.ids
  pub data_of : chunk_of file chunk.Data ≡ Some p.commits
  pub edges : p.edges ≡ unwrap_or (chunk_of file chunk.Edges) []
  pub ids_len : length p.ids ≡ id_len p.kind * p.count
  pub data_len : length p.commits ≡ id_len p.kind * p.count + 16 * p.count

record HasSizes (k : Kind) (ids commits edges : List ℕ) (p : Parts) : Type 0 where
  kind_is : k ≡ p.kind
  ids_are : ids ≡ p.ids
  commits_are : commits ≡ p.commits
  edges_are : edges ≡ p.edges
  ids_len : length ids ≡ id_len k * p.count
  data_len : length commits ≡ id_len k * p.count + 16 * p.count

sizes_are : (k : Kind) (fan_out ids commits edges : List ℕ) (p : Parts) → sized_parts k fan_out ids commits edges ≡ Ok p → HasSizes k ids commits edges p
unfolding sized_parts
sizes_are k fan_out ids commits edges p e =
    let a = passed _ (error.Size chunk.FanOut) _ p e in
    let b = passed _ error.TooMany _ p a.1 in
    let c = passed _ (error.Size chunk.Ids) _ p b.1 in
    let d = passed _ (error.Size chunk.Data) _ p c.1 in
    let f = passed _ (error.Size chunk.Edges) _ p d.1 in
    let g = passed _ error.TooMany _ p f.1 in
    let is = ok_is _ p g.1 in
    record {
      kind_is = ap (λ (p : Parts). p.kind) is;
      ids_are = ap (λ (p : Parts). p.ids) is;
      commits_are = ap (λ (p : Parts). p.commits) is;
      edges_are = ap (λ (p : Parts). p.edges) is;
      ids_len = eqb-true _ _ (true_is _ c.0) ∙ ap (λ (p : Parts). id_len k * p.count) is;
      data_len = eqb-true _ _ (true_is _ d.0) ∙ ap (λ (p : Parts). id_len k * p.count + 16 * p.count) is;
    }

needed_is : (file : List ℕ) (count : ℕ) (c : Chunk) (bytes : List ℕ) → needed file count c ≡ Ok bytes → chunk_from file (name_of c) count 0 ≡ Some bytes
needed_is file count c bytes e = go (chunk_from file (name_of c) count 0) e
  where
    go : (x : Option (List ℕ)) → ok_or x (error.Missing c) ≡ Ok bytes → x ≡ Some bytes
    go None e = absurd (no_ok (error.Missing c) bytes e)
    go (Some y) e = ap Some (ok_is y bytes e)

chunks_are : (k : Kind) (file : List ℕ) (p : Parts) → parts_of k file ≡ Ok p → (k ≡ p.kind) × HasChunks file p
unfolding parts_of
chunks_are k file p e =
    let count = chunk_count file in
    let a = passed (ltb (length file - id_len k) (table_len count)) error.Truncated _ p e in
    let b = passed _ error.Table _ p a.1 in
    let f = then_is (needed file count chunk.FanOut) _ p b.1 in
    let i = then_is (needed file count chunk.Ids) _ p f.2 in
    let d = then_is (needed file count chunk.Data) _ p i.2 in
    let s = sizes_are k f.0 i.0 d.0 (unwrap_or (chunk_from file (name_of chunk.Edges) count 0) []) p d.2 in
    let long = ltb-false (length file - id_len k) (table_len count) a.0 in (
      s.kind_is,
      record {
        fits = subst (λ j. table_len count ≤ length file - id_len j) s.kind_is long;
        ids = needed_is file count chunk.Ids i.0 i.1 ∙ ap (λ (x : List ℕ). Some x) s.ids_are;
        data_of = needed_is file count chunk.Data d.0 d.1 ∙ ap (λ (x : List ℕ). Some x) s.commits_are;
        edges = sym s.edges_are;
        ids_len = ap length (sym s.ids_are) ∙ s.ids_len ∙ ap (λ j. id_len j * p.count) s.kind_is;
        data_len = ap length (sym s.commits_are) ∙ s.data_len ∙ ap (λ j. id_len j * p.count + 16 * p.count) s.kind_is;
      },
    )

pub parts_are : (number : ℕ) (file : List ℕ) (p : Parts) → read_layer number file ≡ Ok p → IsHead number file p.kind × HasChunks file p
parts_are number file p e =
    let a = then_is (kind_said number file) _ p e in
    let c = chunks_are a.0 file p a.2 in
    (subst (IsHead number file) c.0 (head_is number file a.0 a.1), c.1)
