use Rattle.std.proofs.Common.{◌≡◌, drop, fold, []}
use Rattle.std.specs.Prelude.{is_some}
use Rattle.std.specs.List.{filter_map, list_all}
use Rattle.sdp_profile.specs.Numbers.{type_in}
use Rattle.sdp_profile.specs.Media.{texts, with_type}
use Rattle.sdp_profile.proofs.media.payload_types.Given as goal

-- the words that are left complete the types, and all words so far were types
abbrev pub invariant-loop-word : goal.invariant-loop-word
invariant-loop-word l = record {
  types : fold with_type l.types.items (filter_map type_in (texts (drop l.word-index l.words))) ≡ fold with_type [] (filter_map type_in (texts l.words));
  all : list_all (λ word. is_some (type_in word)) (texts (drop l.word-index l.words)) ≡ list_all (λ word. is_some (type_in word)) (texts l.words);
}
