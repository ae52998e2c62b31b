use Rattle.std.proofs.Common.{◌≡◌, ℕ, ◌-◌, List, ◌++◌, length, drop, replicate, ap, ◌∙◌}
use Rattle.std.proofs.lemmas.List.{drop-replicate}
use Rattle.gix_words.specs.Formats.{packed}
use Rattle.gix_words.proofs.format.Format.of.Goals as goal

pub returns : goal.returns
unfolding packed
returns c =
    let text = c.args.text.now in
    (λ k. record {
      text = (ap (λ (front : List ℕ). front ++ drop (length text) (replicate 128 0)) c.copy_from_slice.ensures.after ∙ ap (λ (zeros : List ℕ). text ++ zeros) (drop-replicate (length text) 128 0)) k;
      len = length text;
    })
