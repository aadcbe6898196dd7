-- Whether a set and a list that hold the same have an address.
use Rattle.std.proofs.Common.{◌≡◌, ℕ, true, false, List}
use Rattle.std.specs.BTreeSet.{BTreeSet, contains}
use Rattle.std.specs.Ordering.{nat_cmp}
use Rattle.thread_exceptions.specs.Discovery.{AreSame}
use Rattle.thread_exceptions.specs.Links.{has}
use Rattle.thread_exceptions.proofs.Repeats.{contains_has, has_no}
use Rattle.thread_exceptions.proofs.Sorted.{has_set}

pub known_in : (s : BTreeSet ℕ) (found : List ℕ) (a : ℕ) → AreSame s.keys found → contains nat_cmp s a ≡ true
    → has found a ≡ true
known_in s found a same e = contains_has found a ((same a).0 ((has_set s a).0 e))

pub known_out : (s : BTreeSet ℕ) (found : List ℕ) (a : ℕ) → AreSame s.keys found → contains nat_cmp s a ≡ false
    → has found a ≡ false
known_out s found a same e = has_no found a (λ h. let t = (has_set s a).1 ((same a).1 h) in cc)
