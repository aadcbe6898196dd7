use Rattle.std.proofs.Common.{◌≡◌, ◌≤◌, ◌++◌, map, string_bytes, ℕ, length, List, nat_eq, codes}
use Rattle.py_reprs.specs.Trees.{tree_of, trees_of}
use Rattle.repr_texts.specs.Writing.{WriteFirst, attributes_of, joined, pairs_of}
use Rattle.repr_texts.proofs.text.+repr.Given as goal

abbrev pub invariant-push_dict-loop-number : goal.invariant-push_dict-loop-number
invariant-push_dict-loop-number l = record {
  ks : List (List ℕ);
  vs : List (List ℕ);
  each_key : WriteFirst (trees_of (map tree_of l.keys.items)) ks;
  each_value : WriteFirst (trees_of (map tree_of l.values.items)) vs;
  all_keys : length ks ≡ l.number;
  all_values : length vs ≡ l.number;
  is : string_bytes l.text ≡ string_bytes l.initial.text ++ joined (codes ", ") (pairs_of ks vs);
}

abbrev pub invariant-push_joined-loop-number : goal.invariant-push_joined-loop-number
invariant-push_joined-loop-number l = record {
  parts : List (List ℕ);
  each : WriteFirst (trees_of (map tree_of l.items)) parts;
  all : length parts ≡ l.number;
  is : string_bytes l.text ≡ string_bytes l.initial.text ++ joined l.separator parts;
}

abbrev pub invariant-push_instance-loop-number : goal.invariant-push_instance-loop-number
invariant-push_instance-loop-number l = record {
  ns : List (List ℕ);
  vs : List (List ℕ);
  each_name : WriteFirst (trees_of (map tree_of l.names.items)) ns;
  each_value : WriteFirst (trees_of (map tree_of l.values.items)) vs;
  all_names : length ns ≡ l.number;
  all_values : length vs ≡ l.number;
  is : string_bytes l.text ≡ string_bytes l.initial.text ++ joined (codes ", ") (attributes_of ns vs);
}
