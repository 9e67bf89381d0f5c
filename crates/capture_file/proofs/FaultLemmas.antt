-- Faults of either form as those of a capture file.
use Rattle.std.proofs.Common.{◌≡◌, ◌<◌, ℕ, Option, Some, None, refl}
use Rattle.std.specs.Prelude.{IfSome, option_map}
use Rattle.pcap_file.specs.declared.fault.CaptureFault.{CaptureFault}
use Rattle.pcap_file.specs.declared.fault.CaptureFault.TheVariants as pcap
use Rattle.pcap_file.specs.Faults as pcap_faults
use Rattle.pcapng_file.specs.declared.fault.NgFault.{NgFault}
use Rattle.pcapng_file.specs.declared.fault.NgFault.TheVariants as ng
use Rattle.pcapng_file.specs.Faults as ng_faults
use Rattle.capture_file.specs.Faults.{OnFault, fault_of_pcap, fault_of_ng}

pub pcap_each : (fault : CaptureFault) (A B C A' B' C' : Type 0) → (A → A') → (B → B') → (C → C') → pcap_faults.OnFault fault A B C → OnFault (fault_of_pcap fault) A' B' C'
pcap_each pcap.CutHeader A B C A' B' C' format read memory is = format is
pcap_each pcap.Pcapng A B C A' B' C' format read memory is = format is
pcap_each pcap.Magic A B C A' B' C' format read memory is = format is
pcap_each pcap.Version A B C A' B' C' format read memory is = format is
pcap_each pcap.Link A B C A' B' C' format read memory is = format is
pcap_each (pcap.TooMany offset) A B C A' B' C' format read memory is = format is
pcap_each (pcap.CutRecord offset) A B C A' B' C' format read memory is = format is
pcap_each (pcap.Length offset) A B C A' B' C' format read memory is = format is
pcap_each (pcap.Fraction offset) A B C A' B' C' format read memory is = format is
pcap_each pcap.ReadFault A B C A' B' C' format read memory is = read is
pcap_each pcap.OutOfMemory A B C A' B' C' format read memory is = memory is

pub ng_each : (fault : NgFault) (A B C A' B' C' : Type 0) → (A → A') → (B → B') → (C → C') → ng_faults.OnFault fault A B C → OnFault (fault_of_ng fault) A' B' C'
ng_each (ng.CutBlock offset) A B C A' B' C' format read memory is = format is
ng_each (ng.Order offset) A B C A' B' C' format read memory is = format is
ng_each (ng.Block offset) A B C A' B' C' format read memory is = format is
ng_each (ng.Version offset) A B C A' B' C' format read memory is = format is
ng_each (ng.Link offset) A B C A' B' C' format read memory is = format is
ng_each (ng.Options offset) A B C A' B' C' format read memory is = format is
ng_each (ng.Resolution offset) A B C A' B' C' format read memory is = format is
ng_each (ng.Many offset) A B C A' B' C' format read memory is = format is
ng_each (ng.Interface offset) A B C A' B' C' format read memory is = format is
ng_each (ng.Length offset) A B C A' B' C' format read memory is = format is
ng_each (ng.Time offset) A B C A' B' C' format read memory is = format is
ng_each (ng.TooMany offset) A B C A' B' C' format read memory is = format is
ng_each ng.ReadFault A B C A' B' C' format read memory is = read is
ng_each ng.OutOfMemory A B C A' B' C' format read memory is = memory is

pub pcap_cause : (fault : CaptureFault) (before after : ℕ) → pcap_faults.OnFault fault (after ≡ before) (before < after) (after ≡ before) → OnFault (fault_of_pcap fault) (after ≡ before) (before < after) (after ≡ before)
pcap_cause fault before after is = pcap_each fault _ _ _ _ _ _ (λ e. e) (λ e. e) (λ e. e) is

pub ng_cause : (fault : NgFault) (before after : ℕ) → ng_faults.OnFault fault (after ≡ before) (before < after) (after ≡ before) → OnFault (fault_of_ng fault) (after ≡ before) (before < after) (after ≡ before)
ng_cause fault before after is = ng_each fault _ _ _ _ _ _ (λ e. e) (λ e. e) (λ e. e) is

-- ---- the fault that is kept

pub kept_none : {A B : Type 0} (f : A → B) (kept : Option A) → option_map f kept ≡ None → kept ≡ None
kept_none f None e = refl
kept_none f (Some x) e = absurd cc

pub kept_some : {A B : Type 0} (f : A → B) (kept : Option A) (P : A → Type 0) (Q : B → Type 0) → IfSome kept P → ((x : A) → P x → Q (f x)) → IfSome (option_map f kept) Q
kept_some f None P Q is into = tt
kept_some f (Some x) P Q is into = into x is
