-- Pairs, line by line.
use Rattle.std.proofs.Common.{◌≡◌, ◌<◌, ◌≤◌, ◌+◌, ℕ, List, [], ◌∷◌, ◌++◌, length, drop, get_or, Option, Some, None, sym, ◌∙◌, ap, append_assoc, append-nil}
use Rattle.std.specs.List.{cons_option}
use Rattle.std.proofs.lemmas.List.{at_drop_more, at_drop_all}
use Rattle.rtp_units.specs.declared.shared.Fid.{Fid}
use Rattle.sdp_profile.specs.declared.attribute.Placed.{Placed}
use Rattle.sdp_profile.specs.declared.fault.SdpCause.{SdpCause}
use Rattle.sdp_profile.specs.Pairs.{as_fid, fids_of, cause_of_pair, refused, fault_of_pairs}

pub pair_fails : (earlier : List Fid) (session : ℕ) (l : Placed) (lines : List Placed) (c : SdpCause) → cause_of_pair earlier session l.attribute ≡ Some c
    → fault_of_pairs earlier session (l ∷ lines) ≡ Some (record { line = l.line; cause = c })
unfolding fault_of_pairs
pair_fails earlier session l lines c e =
    ap (λ (o : Option SdpCause). refused o l.line (fault_of_pairs (earlier ++ cons_option (as_fid session l.attribute) []) session lines)) e

pub pair_passes : (earlier : List Fid) (session : ℕ) (l : Placed) (lines : List Placed) → cause_of_pair earlier session l.attribute ≡ None
    → fault_of_pairs earlier session (l ∷ lines) ≡ fault_of_pairs (earlier ++ cons_option (as_fid session l.attribute) []) session lines
unfolding fault_of_pairs
pair_passes earlier session l lines e =
    ap (λ (o : Option SdpCause). refused o l.line (fault_of_pairs (earlier ++ cons_option (as_fid session l.attribute) []) session lines)) e

-- The lines that are left answer what all lines do.
pub record PairsSoFar (fids old : List Fid) (session : ℕ) (left all : List Placed) : Type 0 where
  pub fault : fault_of_pairs fids session left ≡ fault_of_pairs old session all
  pub whole : fids ++ fids_of session left ≡ old ++ fids_of session all

joined : (fids : List Fid) (o : Option Fid) (more : List Fid) → (fids ++ cons_option o []) ++ more ≡ fids ++ cons_option o more
joined fids None more = ap (λ fs. fs ++ more) (append-nil fids)
joined fids (Some f) more = append_assoc fids (f ∷ []) more

pub line_added : (fids old : List Fid) (session i : ℕ) (d : Placed) (all : List Placed) → i < length all
    → PairsSoFar fids old session (drop i all) all → cause_of_pair fids session (get_or all i d).attribute ≡ None
    → PairsSoFar (fids ++ cons_option (as_fid session (get_or all i d).attribute) []) old session (drop (i + 1) all) all
line_added fids old session i d all lt sofar passes =
    let l : Placed = get_or all i d in
    let here : drop i all ≡ l ∷ drop (i + 1) all = at_drop_more (λ ls. ls) all i d lt in
    record {
      fault = sym (pair_passes fids session l (drop (i + 1) all) passes) ∙ sym (ap (fault_of_pairs fids session) here) ∙ sofar.fault;
      whole = joined fids (as_fid session l.attribute) (fids_of session (drop (i + 1) all)) ∙ sym (ap (λ ls. fids ++ fids_of session ls) here) ∙ sofar.whole;
    }

pub line_refused : (fids old : List Fid) (session i : ℕ) (d : Placed) (all : List Placed) (c : SdpCause) → i < length all
    → PairsSoFar fids old session (drop i all) all → cause_of_pair fids session (get_or all i d).attribute ≡ Some c
    → fault_of_pairs old session all ≡ Some (record { line = (get_or all i d).line; cause = c })
line_refused fids old session i d all c lt sofar fails =
    let l : Placed = get_or all i d in
    let here : drop i all ≡ l ∷ drop (i + 1) all = at_drop_more (λ ls. ls) all i d lt in
    sym sofar.fault ∙ ap (fault_of_pairs fids session) here ∙ pair_fails fids session l (drop (i + 1) all) c fails

pub no_lines : (fids old : List Fid) (session i : ℕ) (all : List Placed) → length all ≤ i → PairsSoFar fids old session (drop i all) all
    → (fault_of_pairs old session all ≡ None) × (fids ≡ old ++ fids_of session all)
unfolding fault_of_pairs
no_lines fids old session i all end sofar =
    let none : drop i all ≡ [] = at_drop_all (λ ls. ls) all i end in (
      sym sofar.fault ∙ ap (fault_of_pairs fids session) none,
      sym (append-nil fids) ∙ sym (ap (λ ls. fids ++ fids_of session ls) none) ∙ sofar.whole,
    )
