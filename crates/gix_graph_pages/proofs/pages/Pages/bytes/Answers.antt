use Rattle.std.proofs.Common.{◌≡◌, ◌+◌, ◌%◌, ◌≤◌, Some, length, take, drop, map, vec_items, option_map, refl, sym, ap, ◌∙◌, arith}
use Rattle.gix_graph_pages.proofs.PageBytes.{page_part, seen_at}
use Rattle.gix_graph_pages.proofs.pages.Pages.bytes.Goals as goal

pub returns : goal.returns
returns g c =
    let a = c.args in
    let own = c.in_ok-pages in
    let found = c.in-Some-Some in
    let page = found.page.items in
    let layer = seen_at (λ of_file. map (option_map vec_items) of_file.items) _ _ _ _ own.pages.now c.as_slice.ensures.value c.self.view_is own.ensures.lookup.3.0 own.ensures.lookup.1 in
    let there = seen_at (option_map vec_items) _ _ _ _ found.field-0.now c.as_slice-2.ensures.value refl found.ensures.lookup.3.0 found.ensures.lookup.1 ∙ ap (λ o. Some (option_map vec_items o)) found.field-0-is in
    let fits : (a.place % 4096) + a.count ≤ length page = omega (arith, c.split_at.ensures.back_len, ap length c.as_slice-page.ensures.value, c.if-count-rest.false) in
    let is : c.split_at-2.result.0.now ≡ take a.count (drop (a.place % 4096) page) = c.split_at-2.ensures.front ∙ ap (take a.count) (c.split_at.ensures.back ∙ ap (drop (a.place % 4096)) c.as_slice-page.ensures.value) in
    (c.split_at-2.ensures.front_len, λ file has. page_part a.self.now _ a.layer a.place a.count page layer there fits file has ∙ sym is)
