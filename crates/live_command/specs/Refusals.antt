-- What a run of `live` has against a capture.
use Rattle.std.specs.Prelude.{ℕ, nat_lt, nat_eq, List, [], ◌∷◌, ◌++◌, length, sum_by}
use Rattle.std.specs.Prelude.{Option, Some, None, option_map, Bool, true, if◌then◌else◌}
use Rattle.std.specs.Option.{option_or}
use Rattle.pcap_file.specs.Capture.{Record}
use Rattle.capture_file.specs.declared.fault.FileFault.{FileFault}
use Rattle.capture_file.specs.Capture.{Capture}
use Rattle.command_core.specs.declared.stop.Stop.TheVariants as stop
use Rattle.live_command.specs.declared.load.TheConstants.{MAX_BYTES}
use Rattle.live_command.specs.declared.stop.LiveStop.{LiveStop}
use Rattle.live_command.specs.declared.stop.LiveStop.TheVariants.{Common, TooMany, MixedLinks}

-- how many bytes records include
abbrev pub included : List Record → ℕ
included rs = sum_by (λ r. length r.bytes) rs

-- the link type of the first record
abbrev pub first_link : List Record → Option ℕ
first_link [] = None
first_link (r ∷ rs) = Some r.link

-- Where there is a link type, it is this one.
abbrev pub is_link : Option ℕ → ℕ → Bool
is_link None link = true
is_link (Some first) link = nat_eq first link

-- what there is against a record behind others: the records up to it include too many bytes, or its
-- link type isn't the first one's
abbrev pub refusal : List Record → Record → Option LiveStop
refusal before r =
    if nat_lt MAX_BYTES (included (before ++ r ∷ [])) then Some (TooMany r.offset)
    else if is_link (first_link before) r.link then None
    else Some (MixedLinks r.offset)

-- what there is against the first record that something is against, where these came before
abbrev pub first_refusal : List Record → List Record → Option LiveStop
first_refusal before [] = None
first_refusal before (r ∷ rs) = option_or (refusal before r) (first_refusal (before ++ r ∷ []) rs)

abbrev pub fault_stop : FileFault → LiveStop
fault_stop fault = Common (stop.Capture fault)

-- what a run stops with for a capture: for a record of it, and where there is nothing against any,
-- for the fault that ends them
abbrev pub capture_stop : Capture → Option LiveStop
capture_stop capture =
    option_or (first_refusal [] capture.records) (option_map fault_stop capture.fault)
