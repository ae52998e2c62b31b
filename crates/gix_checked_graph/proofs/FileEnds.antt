-- A file that the reader takes ends with its hash where its last chunk ends.
use Rattle.std.proofs.Common.{◌≡◌, ◌==◌, if◌then◌else◌, ◌&&◌, ℕ, zero, suc, ◌+◌, ◌-◌, ◌*◌, ◌<◌, ◌≤◌, Bool, true, false, not, cond, eqb, ltb, List, [], ◌∷◌, take, drop, length, slice_get, slice_index, Some, Result, Ok, Err, refl, sym, ap, subst, ◌∙◌, arith, eqb-true, ltb-false, length-drop, length-take}
use Rattle.std.proofs.lemmas.Bool.{false≢true}
use Rattle.std.proofs.lemmas.List.{take_all}
use Rattle.std.proofs.lemmas.Option.{none-some, same_Some}
use Rattle.gix_hash.specs.declared.Kind.{Kind}
use Rattle.gix_hash.specs.declared.Kind.TheVariants as kind
use Rattle.gix_hash.specs.Id.{id_len}
use Rattle.gix_commitgraph.specs.Rows.{GraphRow}
use Rattle.gix_graph_file.specs.declared.error.Error.{Error}
use Rattle.gix_graph_file.specs.declared.error.Error.TheVariants as error
use Rattle.gix_graph_file.specs.FileTable.{Parts, chunk_count, is_last, is_table_from, kind_said, name_at, offset_at, parts_of, read_layer, table_len}
use Rattle.gix_graph_file.specs.Chain.{Lower, chain_from, nothing, read_chain, with_layer}
use Rattle.gix_statement.specs.CommitGraph.{number_at}
use Rattle.gix_graph_pages.specs.GraphPages.{width_of}
use Rattle.gix_graph_pages.specs.NamedBelow.{end_of_chunks, own_hash}
use Rattle.gix_commands.proofs.FileHeads.{head_is, passed, then_is, true_is, version}
use Rattle.gix_commands.proofs.FileLayers.{first_layer}
use Rattle.gix_commands.proofs.FileNumbers.{byte_is, long_is}

-- where the last chunk ends
pub record HasEnd (file : List ℕ) : Type 0 where
  pub kind : Kind
  pub version_is : number_at 5 1 file ≡ version kind
  pub fits : id_len kind ≤ length file
  pub end : end_of_chunks file ≡ length file - id_len kind

front_true : (a b : Bool) → a && b ≡ true → (a ≡ true) × (b ≡ true)
front_true true b e = (refl, e)
front_true false b e = absurd (false≢true e)

last_end : (file : List ℕ) (end entry lower : ℕ) → is_last file end entry lower ≡ true → offset_at file entry ≡ end
last_end file end entry lower e = eqb-true (offset_at file entry) end (front_true (eqb (name_at file entry) 0) _ (front_true _ _ e).0).1

not_then : (b : Bool) (x : Bool) → cond b false x ≡ true → x ≡ true
not_then true x e = absurd (false≢true e)
not_then false x e = e

table_end : (file : List ℕ) (end left entry lower : ℕ) → is_table_from file end left entry lower ≡ true → offset_at file (entry + left) ≡ end
unfolding is_table_from
table_end file end zero entry lower e = let same : entry + 0 ≡ entry = omega arith in ap (offset_at file) same ∙ last_end file end entry lower e
table_end file end (suc left) entry lower e =
    let one_more : entry + suc left ≡ entry + 1 + left = omega arith in
    ap (offset_at file) one_more ∙ table_end file end left (entry + 1) (offset_at file entry) (not_then _ _ (not_then _ _ e))

number_there : (file : List ℕ) (count : ℕ) → table_len count ≤ length file → number_at (12 + 12 * count) 8 file ≡ offset_at file count
unfolding offset_at
number_there file count fits = long_is (12 + 12 * count) file (omega (arith, fits))

parts_end : (k : Kind) (file : List ℕ) (p : Parts) → parts_of k file ≡ Ok p → (table_len (chunk_count file) ≤ length file - id_len k) × (offset_at file (chunk_count file) ≡ length file - id_len k)
unfolding parts_of
parts_end k file p e =
    let count = chunk_count file in
    let a = passed (ltb (length file - id_len k) (table_len count)) error.Truncated _ p e in
    let b = passed _ error.Table _ p a.1 in
    let none_before : 0 + count ≡ count = omega arith in
    (ltb-false (length file - id_len k) (table_len count) a.0, ap (offset_at file) (sym none_before) ∙ table_end file (length file - id_len k) count 0 (table_len count) (true_is _ b.0))

file_end : (number : ℕ) (file : List ℕ) (p : Parts) → read_layer number file ≡ Ok p → HasEnd file
file_end number file p e =
    let a = then_is (kind_said number file) _ p e in
    let head = head_is number file a.0 a.1 in
    let parts = parts_end a.0 file p a.2 in
    let fits = parts.0 in
    let long = head.long in
    let counted : number_at 6 1 file ≡ chunk_count file = byte_is 6 file (omega (arith, long)) in
    record {
      kind = a.0;
      version_is = head.version_is;
      fits = omega (arith, fits);
      end = ap (λ n. number_at (12 + 12 * n) 8 file) counted ∙ number_there file (chunk_count file) (omega (arith, fits)) ∙ parts.1;
    }

-- ---- the files of a chain

layer_end : (number : ℕ) (lower next : Lower) (file : List ℕ) → with_layer number lower file ≡ Ok next → HasEnd file
unfolding with_layer
layer_end number lower next file e = let a = then_is (read_layer number file) _ next e in file_end number file a.0 a.1

ends_from : (number : ℕ) (lower : Lower) (files : List (List ℕ)) (rows : List GraphRow) → chain_from number lower files ≡ Ok rows → (k : ℕ) (file : List ℕ) → slice_get files k ≡ Some file → HasEnd file
ends_from number lower [] rows e k file at = absurd (none-some file at)
ends_from number lower (first ∷ files) rows e zero file at = let a = first_layer number lower first files rows e in subst HasEnd (same_Some first file at) (layer_end number lower a.0 first a.1)
ends_from number lower (first ∷ files) rows e (suc k) file at = let a = first_layer number lower first files rows e in ends_from (number + 1) a.0 files rows a.2 k file at

pub chain_ends : (files : List (List ℕ)) (rows : List GraphRow) → read_chain files ≡ Ok rows → (k : ℕ) (file : List ℕ) → slice_get files k ≡ Some file → HasEnd file
chain_ends files rows e = ends_from 0 nothing files rows e

-- ---- its hash

version_width : (k : Kind) (file : List ℕ) → number_at 5 1 file ≡ version k → width_of file ≡ id_len k
version_width kind.Sha1 file e = ap (λ n. if n == 1 then 20 else 32) e
version_width kind.Sha256 file e = ap (λ n. if n == 1 then 20 else 32) e

-- it is the last bytes, as many as of an id
pub hash_is : (file : List ℕ) → HasEnd file → own_hash file ≡ drop (length file - width_of file) file
hash_is file has =
    let k = has.kind in
    let width : width_of file ≡ id_len k = version_width k file has.version_is in
    let at : end_of_chunks file ≡ length file - width_of file = has.end ∙ ap (λ w. length file - w) (sym width) in
    let fits = has.fits in
    ap (λ place. take (width_of file) (drop place file)) at ∙ take_all (width_of file) (drop (length file - width_of file) file) (omega (arith, length-drop (length file - width_of file) file, width, fits))

pub hash_long : (file : List ℕ) → HasEnd file → length (own_hash file) ≡ width_of file
hash_long file has =
    let width : width_of file ≡ id_len has.kind = version_width has.kind file has.version_is in
    let fits = has.fits in
    ap length (hash_is file has) ∙ omega (arith, length-drop (length file - width_of file) file, width, fits)
