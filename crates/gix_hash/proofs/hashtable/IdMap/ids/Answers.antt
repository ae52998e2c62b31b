use Rattle.std.proofs.Common.{rules, ◌≡◌, ◌++◌, map as mapped, length, length-append, is_some, ap, ◌∙◌}
use Rattle.std.proofs.lemmas.List.{length-map}
use Rattle.std.specs.FinMap as map
use Rattle.std.specs.Map.{keys_of}
use Rattle.gix_hash.specs.Id.{is_among}
use Rattle.gix_hash.specs.Tables.{short_id, long_id}
use Rattle.gix_hash.proofs.Ids.Tables.{listed_both, counted_both}
use Rattle.gix_hash.proofs.hashtable.IdMap.ids.Goals as goal

pub returns : goal.returns
returns g c =
    let short = c.self.inside.short.entries in
    let long = c.self.inside.long.entries in
    let both : c.loop-bytes-2.ids.items ≡ mapped short_id (keys_of short) ++ mapped long_id (keys_of long) = search rules in record {
      all = λ i. ap (is_among i) both ∙ listed_both short long i ∙ ap is_some (ap (λ m. map.get m i) c.self.view_is);
      once = ap length both ∙ search (rules, counted_both, length-append, length-map);
    }
