-- Worked examples of words.
use Rattle.std.specs.Prelude.{◌≡◌, ◌∷◌, [], codes, Err, refl}
use Rattle.gix_words.specs.declared.fault.Fault.TheVariants as fault
use Rattle.gix_words.specs.Words.{ended_of, formatted_of, formed_of, limited_of, merges_of, named_of, request_of, skipped_of, timed_of, titled_of, until_of}

pub no_words : request_of [] ≡ Err fault.Usage
no_words = refl

pub no_id : request_of (codes "breadth" ∷ []) ≡ Err fault.Usage
unfolding until_of merges_of skipped_of limited_of formed_of formatted_of timed_of named_of titled_of ended_of
no_id = refl

pub bad_id : request_of (codes "breadth" ∷ codes "zz" ∷ []) ≡ Err (fault.Id 2)
unfolding until_of merges_of skipped_of limited_of formed_of formatted_of timed_of named_of titled_of ended_of
bad_id = refl

pub bad_id_before_others : request_of (codes "newest" ∷ codes "zz" ∷ codes "^" ∷ []) ≡ Err (fault.Id 2)
unfolding until_of merges_of skipped_of limited_of formed_of formatted_of timed_of named_of titled_of ended_of
bad_id_before_others = refl

pub no_tip : request_of (codes "oldest" ∷ codes "^zz" ∷ codes "^" ∷ []) ≡ Err fault.Usage
unfolding until_of merges_of skipped_of limited_of formed_of formatted_of timed_of named_of titled_of ended_of
no_tip = refl

pub no_tip_below_ends : request_of (codes "topo" ∷ codes "^zz" ∷ []) ≡ Err fault.Usage
unfolding until_of merges_of skipped_of limited_of formed_of formatted_of timed_of named_of titled_of ended_of
no_tip_below_ends = refl

pub bad_end : request_of (codes "date" ∷ codes "^" ∷ codes "zz" ∷ []) ≡ Err (fault.Id 2)
unfolding until_of merges_of skipped_of limited_of formed_of formatted_of timed_of named_of titled_of ended_of
bad_end = refl

pub no_format : request_of (codes "breadth" ∷ codes "--format" ∷ []) ≡ Err fault.Usage
unfolding until_of merges_of skipped_of limited_of formed_of formatted_of timed_of named_of titled_of ended_of
no_format = refl

pub no_id_behind_a_format : request_of (codes "breadth" ∷ codes "--format" ∷ codes "%H" ∷ []) ≡ Err fault.Usage
unfolding until_of merges_of skipped_of limited_of formed_of formatted_of timed_of named_of titled_of ended_of
no_id_behind_a_format = refl

pub bad_id_behind_a_format : request_of (codes "breadth" ∷ codes "--format" ∷ codes "%H %an, %ci%n100%%" ∷ codes "-z" ∷ codes "zz" ∷ []) ≡ Err (fault.Id 5)
unfolding until_of merges_of skipped_of limited_of formed_of formatted_of timed_of named_of titled_of ended_of
bad_id_behind_a_format = refl

pub unknown_field : request_of (codes "breadth" ∷ codes "--format" ∷ codes "%x" ∷ codes "zz" ∷ []) ≡ Err fault.Usage
unfolding until_of merges_of skipped_of limited_of formed_of formatted_of timed_of named_of titled_of ended_of
unknown_field = refl

pub unknown_field_of_the_author : request_of (codes "breadth" ∷ codes "--format" ∷ codes "%ad" ∷ codes "zz" ∷ []) ≡ Err fault.Usage
unfolding until_of merges_of skipped_of limited_of formed_of formatted_of timed_of named_of titled_of ended_of
unknown_field_of_the_author = refl

pub half_a_field : request_of (codes "breadth" ∷ codes "--format" ∷ codes "%H %" ∷ codes "zz" ∷ []) ≡ Err fault.Usage
unfolding until_of merges_of skipped_of limited_of formed_of formatted_of timed_of named_of titled_of ended_of
half_a_field = refl

pub parents_behind_a_format : request_of (codes "breadth" ∷ codes "--format" ∷ codes "%H" ∷ codes "--parents" ∷ codes "zz" ∷ []) ≡ Err (fault.Id 4)
unfolding until_of merges_of skipped_of limited_of formed_of formatted_of timed_of named_of titled_of ended_of
parents_behind_a_format = refl

pub format_behind_parents : request_of (codes "breadth" ∷ codes "--parents" ∷ codes "--format" ∷ codes "%H" ∷ codes "zz" ∷ []) ≡ Err (fault.Id 3)
unfolding until_of merges_of skipped_of limited_of formed_of formatted_of timed_of named_of titled_of ended_of
format_behind_parents = refl

pub no_tree : request_of (codes "files" ∷ []) ≡ Err fault.Usage
no_tree = refl

pub two_trees : request_of (codes "files" ∷ codes "zz" ∷ codes "zz" ∷ []) ≡ Err fault.Usage
two_trees = refl

pub hidden_tree : request_of (codes "files" ∷ codes "^" ∷ []) ≡ Err fault.Usage
hidden_tree = refl

pub bad_tree : request_of (codes "files" ∷ codes "zz" ∷ []) ≡ Err (fault.Id 2)
bad_tree = refl

pub one_commit : request_of (codes "ahead" ∷ codes "zz" ∷ []) ≡ Err fault.Usage
one_commit = refl

pub three_commits : request_of (codes "ahead" ∷ codes "zz" ∷ codes "zz" ∷ codes "zz" ∷ []) ≡ Err fault.Usage
three_commits = refl

pub hidden_commit : request_of (codes "ahead" ∷ codes "zz" ∷ codes "^" ∷ []) ≡ Err fault.Usage
hidden_commit = refl

pub bad_commit : request_of (codes "ahead" ∷ codes "zz" ∷ codes "zz" ∷ []) ≡ Err (fault.Id 2)
bad_commit = refl

pub one_containing : request_of (codes "containing" ∷ codes "zz" ∷ []) ≡ Err fault.Usage
one_containing = refl

pub bad_containing : request_of (codes "containing" ∷ codes "zz" ∷ codes "zz" ∷ []) ≡ Err (fault.Id 2)
bad_containing = refl

pub one_base : request_of (codes "merge-base" ∷ codes "zz" ∷ []) ≡ Err fault.Usage
one_base = refl

pub hidden_base : request_of (codes "merge-base" ∷ codes "zz" ∷ codes "^" ∷ []) ≡ Err fault.Usage
hidden_base = refl

pub bad_base : request_of (codes "merge-base" ∷ codes "zz" ∷ codes "zz" ∷ []) ≡ Err (fault.Id 2)
bad_base = refl

pub option_of_bases : request_of (codes "merge-base" ∷ codes "--count" ∷ codes "zz" ∷ codes "zz" ∷ []) ≡ Err fault.Usage
option_of_bases = refl

pub option_of_two : request_of (codes "ahead" ∷ codes "zz" ∷ codes "--reverse" ∷ []) ≡ Err fault.Usage
option_of_two = refl
