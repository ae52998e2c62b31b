use Rattle.std.proofs.Common.{◌≡◌, ◌*◌, ◌+◌, ℕ, List, length, slice_index, inl, inr, refl, sym, ap, ◌∙◌, arith}
use Rattle.std.proofs.lemmas.Option.{IfSome_then}
use Rattle.gix_hash.specs.Id.{id_len}
use Rattle.gix_statement.specs.CommitGraph.{bytes_at, number_at}
use Rattle.gix_graph_pages.specs.GraphPages.{IsFileOf}
use Rattle.gix_statement.proofs.LayersOnce.{chunk_once}
use Rattle.gix_graph_pages.specs.PagedRows.{version}
use Rattle.gix_graph_pages.proofs.BelowNamed.{letters_are}
use Rattle.gix_graph_pages.proofs.ReadRows.{head_byte, width_is}
use Rattle.gix_graph_pages.proofs.layout.layout_of.Goals as goal
use Rattle.gix_graph_pages.proofs.layout.layout_of.Goals.{in-1, in-2}

pub returns : goal.returns
returns g c =
    let head = c.in_ok-head.head.now in
    let k = c.match-head.kind in
    let width = c.len_in_bytes-width.ensures in
    let long : length head ≡ 8 = c.in_ok-head.ensures.0 in
    let begins : (file : List ℕ) → IsFileOf c.args.pages.now c.args.layer file → bytes_at 0 8 file ≡ head = c.in_ok-head.ensures.1 in
    let counted : (file : List ℕ) → IsFileOf c.args.pages.now c.args.layer file → slice_index head 6 ≡ number_at 6 1 file = (λ file has. sym (head_byte file head 6 (omega arith) long (begins file has))) in
    let n = c.in_ok-rows.rows in
    let ids_long : c.in_ok-ids.ids.len ≡ id_len k * n = c.if-ids-width.false ∙ ap (λ w. w * n) width in
    let data_long : c.in_ok-data.data.len ≡ (id_len k + 16) * n = c.if-data-width.false ∙ ap (λ w. (w + 16) * n) width in
    record {
      says = (
        refl,
        refl,
        record {
          width = λ layers generation read layer at. let has = read.files.has c.args.layer layer at in elim c.match-head.branch [
            | in-1 v ↦ width_is layer.file head k 1 long (begins layer.file has) v.in-1.is (inl (refl, ap id_len v.kind-is))
            | in-2 v ↦ width_is layer.file head k 2 long (begins layer.file has) v.in-2.is (inr (refl, ap id_len v.kind-is))
          ];
          ids = λ layers generation read layer at bytes chunk. let has = read.files.has c.args.layer layer at in chunk_once layer.file _ bytes _ chunk (c.in_ok-ids.ensures layer.file has (counted layer.file has)) ∙ ap (λ len. bytes_at c.in_ok-ids.ids.from len layer.file) ids_long;
          said = λ layers generation read layer at bytes chunk. let has = read.files.has c.args.layer layer at in chunk_once layer.file _ bytes _ chunk (c.in_ok-data.ensures layer.file has (counted layer.file has)) ∙ ap (λ len. bytes_at c.in_ok-data.data.from len layer.file) data_long;
          further = IfSome_then c.chunk_of-4.result c.chunk_of-4.ensures (λ chunk found layers generation read layer at bytes is. let has = read.files.has c.args.layer layer at in chunk_once layer.file _ bytes _ is (found layer.file has (counted layer.file has)));
        },
      );
      head = λ file has. record {
        begins = letters_are file head long (begins file has) (sym c.starts_with.ensures.value ∙ c.if-not-starts_with.false) c.if-head-ne1.false;
        kind = elim c.match-head.branch [
          | in-1 v ↦ head_byte file head 5 (omega arith) long (begins file has) ∙ v.in-1.is ∙ ap version (sym v.kind-is)
          | in-2 v ↦ head_byte file head 5 (omega arith) long (begins file has) ∙ v.in-2.is ∙ ap version (sym v.kind-is)
        ];
        number = head_byte file head 7 (omega arith) long (begins file has) ∙ c.if-head-layer.false;
        base = IfSome_then c.chunk_of-5.result c.chunk_of-5.ensures (λ chunk found. found file has (counted file has));
      };
    }
