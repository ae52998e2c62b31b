use Rattle.gix_format.proofs.Digits.{after_year-is}
use Rattle.gix_format.proofs.date.behind_the_year.Goals as goal

pub returns : goal.returns
returns c =
    let is = after_year-is c.args.month c.args.day c.args.second c.requires.month c.requires.day c.requires.second in
    cc
