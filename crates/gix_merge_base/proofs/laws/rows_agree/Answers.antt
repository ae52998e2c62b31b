use Rattle.gix_merge_base.proofs.Histories.{bases_of_history}
use Rattle.gix_merge_base.proofs.Rising.{rising_once}
use Rattle.gix_merge_base.proofs.laws.rows_agree.Goals as goal

pub returns : goal.returns
returns c = λ history these those rows others_rows one others bases found part agreeing a other_part also b.
    let mine = bases_of_history these history rows one others bases agreeing part a in
    let other = bases_of_history those history others_rows one others found also other_part b in
    rising_once bases found mine.rising other.rising (λ i m. (other.exact i).1 ((mine.exact i).0 m)) (λ i m. (mine.exact i).1 ((other.exact i).0 m))
