use Rattle.std.proofs.Common.{w64, ◌++◌, ◌∷◌, [], ℕ, List, flat_map, if◌then◌else◌, ap, append_assoc, ◌∙◌}
use Rattle.std.proofs.lemmas.Int.{to_z-of_z}
use Rattle.gix_hash.specs.Id.{hex_of}
use Rattle.gix_statement.specs.Formats.{formatted}
use Rattle.gix_words.specs.Formats.{format_bytes}
use Rattle.gix_commands.specs.Chosen.{seconds_or_zero}
use Rattle.gix_commands.proofs.chosen.line_of.Goals as goal

-- time, id, parents, what the format says, and the ending, one behind the other
pub returns : goal.returns
returns c =
    let has = c.args.has in
    let text = c.args.text.now in
    let parents = c.args.header.now.parent_ids.items in
    let seconds = to_z-of_z w64 c.seconds_of.result (record { sfits = c.seconds_of.type_inv }) ∙ c.seconds_of.ensures in
    let own : List ℕ = if has.id then hex_of c.args.id.now else [] in
    let others : List ℕ = if has.parents then flat_map (λ p. 32 ∷ hex_of p) parents else [] in
    let said : List ℕ = formatted (record { id = c.args.id.now; parents = parents; time = seconds_or_zero c.args.header.now.time; text = text }) 0 (format_bytes has.format) in
    c.in_ok-push.ensures.items
    ∙ ap (λ (line : List ℕ). line ++ has.ending ∷ []) (c.in_ok-add_formatted.ensures.whole
    ∙ (λ k. c.add_parents.new.line.items ++ formatted (record { id = c.args.id.now; parents = c.as_slice-parents.ensures k; time = seconds k; text = text }) 0 (c.as_bytes.ensures k))
    ∙ ap (λ (line : List ℕ). line ++ said) (c.in_ok-add_parents.ensures
    ∙ (λ k. c.add_own_id.new.line.items ++ (if has.parents then flat_map (λ p. 32 ∷ hex_of p) (c.as_slice-parents.ensures k) else []))
    ∙ ap (λ (line : List ℕ). line ++ others) (c.in_ok-add_own_id.ensures ∙ ap (λ (line : List ℕ). line ++ own) c.in_ok-line.ensures)))
    ∙ simp append_assoc
