-- Worked cases, by computation.
use Rattle.std.proofs.Common.{◌≡◌, ℕ, List, [], ◌∷◌, Some, refl}
use Rattle.depay.specs.declared.outcome.Cause.TheVariants.{Kind, Size, Fragment, Incomplete}
use Rattle.depay.specs.declared.outcome.Format.TheVariants.{Pcmu, H264}
use Rattle.depay.specs.declared.outcome.Outcome.TheVariants.{Unit as Whole, Broken}
use Rattle.depay.specs.Fragments.{Packet, Takes, Gaps, packet}
use Rattle.depay.specs.Outcomes.{outcomes_of, gap_of}

abbrev begin : Packet
begin = packet 65537 0 0 (124 ∷ 133 ∷ 170 ∷ [])

abbrev middle : Packet
middle = packet 65538 0 20 (124 ∷ 5 ∷ 187 ∷ [])

abbrev end : Packet
end = packet 65539 0 40 (124 ∷ 69 ∷ 204 ∷ [])

fragments_become_one_unit : outcomes_of H264 (Takes middle ∷ Takes begin ∷ []) end ≡ Whole 65537 65539 0 (101 ∷ 170 ∷ 187 ∷ 204 ∷ []) ∷ []
fragments_become_one_unit = refl

a_missing_fragment : outcomes_of H264 (Takes begin ∷ []) end ≡ Broken 65537 Incomplete ∷ Broken 65539 Fragment ∷ []
a_missing_fragment = refl

a_gap_between : outcomes_of H264 (Takes middle ∷ Gaps ∷ Takes begin ∷ []) end ≡ Broken 65539 Fragment ∷ []
a_gap_between = refl

a_gap_tells : gap_of H264 (Takes middle ∷ Takes begin ∷ []) ≡ Some 65537
a_gap_tells = refl

an_aggregate : outcomes_of H264 [] (packet 65537 0 0 (120 ∷ 0 ∷ 2 ∷ 103 ∷ 66 ∷ 0 ∷ 1 ∷ 104 ∷ [])) ≡ Whole 65537 65537 0 (103 ∷ 66 ∷ []) ∷ Whole 65537 65537 0 (104 ∷ []) ∷ []
an_aggregate = refl

a_size_past_the_end : outcomes_of H264 [] (packet 65537 0 0 (120 ∷ 0 ∷ 2 ∷ 103 ∷ [])) ≡ Broken 65537 Size ∷ []
a_size_past_the_end = refl

a_type_that_is_not_read : outcomes_of H264 (Takes begin ∷ []) (packet 65538 0 0 (121 ∷ 1 ∷ [])) ≡ Broken 65537 Incomplete ∷ Broken 65538 Kind ∷ []
a_type_that_is_not_read = refl

a_payload : outcomes_of Pcmu [] (packet 65537 0 7 (1 ∷ 2 ∷ 3 ∷ 4 ∷ [])) ≡ Whole 65537 65537 7 (1 ∷ 2 ∷ 3 ∷ 4 ∷ []) ∷ []
a_payload = refl
