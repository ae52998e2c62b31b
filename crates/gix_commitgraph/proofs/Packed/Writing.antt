-- Rows written one after the other.
use Rattle.std.proofs.Common.{◌≡◌, ℕ, List, [], ◌∷◌, ◌++◌, append_assoc}
use Rattle.gix_commitgraph.proofs.Common.{ParentPlace, list_words}

pub six_appended : (o a b c d e f p q r s t u : List ℕ) → p ≡ o ++ a → q ≡ p ++ b → r ≡ q ++ c → s ≡ r ++ d → t ≡ s ++ e → u ≡ t ++ f → u ≡ o ++ (a ++ (b ++ (c ++ (d ++ (e ++ f)))))
six_appended o a b c d e f p q r s t u p_is q_is r_is s_is t_is u_is = rw (u_is, t_is, s_is, r_is, q_is, p_is) (simp append_assoc)

-- ---- an overflow list

-- the words of the rest of an overflow list
abbrev pub rest_words : List ParentPlace → List ℕ
rest_words [] = []
rest_words (p ∷ ps) = list_words p ps

pub whole_appended : (p q r s name n m rows words : List ℕ) → p ≡ [] → q ≡ p ++ (name ++ (n ++ m)) → r ≡ q ++ rows → s ≡ r ++ words → s ≡ name ++ (n ++ (m ++ (rows ++ words)))
whole_appended p q r s name n m rows words p_is q_is r_is s_is = rw (s_is, r_is, q_is, p_is) (simp append_assoc)
