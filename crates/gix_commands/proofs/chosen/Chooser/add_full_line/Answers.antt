use Rattle.std.proofs.Common.{◌≡◌, ◌++◌, true, false, Some, ap, sym, ◌∙◌}
use Rattle.gix_statement.proofs.SameLines.{same_line}
use Rattle.gix_statement.specs.WholeStatement.{Objects, commit_line, says_more, text_in}
use Rattle.gix_revwalk.specs.Commits.{time_of}
use Rattle.gix_revwalk.specs.Texts.{text_next}
use Rattle.gix_words.specs.Formats.{format_bytes}
use Rattle.gix_commands.specs.Chosen.{Choosing, commit_with, page_line, seconds_or_zero}
use Rattle.gix_commands.specs.Pages.{page_objects}
use Rattle.gix_commands.proofs.chosen.Chooser.add_full_line.Goals as goal
use Rattle.gix_commands.proofs.chosen.Chooser.add_full_line.Goals.{then-not-is_empty+in_ok-read_text, else-not-is_empty}

pub returns-clause-ok : goal.returns-clause-ok
returns-clause-ok c =
    let read = c.args.self.now.objects in
    let i = c.args.id.now in
    let has = c.self.inside.shown.line in
    let header = c.in_ok-header.header in
    let texts : Objects = λ _. Some (commit_with c.as_slice.result.now) in
    let text : says_more (format_bytes has.format) ≡ true → c.as_slice.result.now ≡ text_in (page_objects read i) = elim c.if-not-is_empty.branch [
      | then-not-is_empty+in_ok-read_text w ↦ λ e. c.as_slice.ensures.value ∙ ap (λ text. text.items) w.text-is ∙ w.in_ok-read_text.ensures.ok ∙ ap (λ (s : Choosing). text_in (page_objects s.objects i)) c.self.view_is
      | else-not-is_empty w ↦ λ e. let none : false ≡ true = sym (ap says_more w.if-not-is_empty.ensures) ∙ e in cc
    ] in
    let parents = c.in_ok-header.ensures.ok.parents ∙ ap (λ (s : Choosing). text_next s.objects i) c.self.view_is in
    let time = c.in_ok-header.ensures.ok.time ∙ ap (λ (s : Choosing). time_of s.objects i) c.self.view_is in
    let line = same_line texts (page_objects read) (λ _. header.parent_ids.items) (text_next read) (λ _. seconds_or_zero header.time) (time_of read) (page_line has) i parents time text in
    let shown = ap (λ (s : Choosing). commit_line (page_objects read) (text_next read) (time_of read) (page_line s.shown.line) i) c.self.view_is in
    c.in_ok-extend_from_slice.ensures.items
    ∙ ap (λ xs. c.args.lines.now.items ++ xs) (c.as_slice-2.ensures.value ∙ c.in_ok-line.ensures ∙ line ∙ shown)
