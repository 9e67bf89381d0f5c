-- A session stands for what it was given, one thing more.
use Rattle.std.proofs.Common.{◌≡◌, ◌≤◌, ℕ, ◌+◌, Bool, true, false, cond, List, [], ◌∷◌, ◌++◌, reverse, map, refl, sym, ap, subst, ◌∙◌, eqb-true, arith}
use Rattle.std.specs.Prelude.{nat_eq, option_to_list, option_map, find, Option, Some, None, Result, Ok, Err}
use Rattle.std.specs.List.{list_any, flat_map, AllByRecursion}
use Rattle.std.proofs.lemmas.Bool.Decides.{nat_tests}
use Rattle.std.proofs.lemmas.List.{append-nil, append_assoc, reverse-append}
use Rattle.rtp_units.specs.declared.shared.Address.{Address}
use Rattle.rtp_wire.specs.Packet.{Packet as View}
use Rattle.rtcp_wire.specs.declared.packet.Chunk.{Chunk}
use Rattle.rtcp_wire.specs.declared.packet.SdesItem.{SdesItem}
use Rattle.rtcp_wire.specs.declared.packet.Rtcp.{Rtcp as RtcpPacket}
use Rattle.rtcp_wire.specs.declared.packet.Rtcp.TheVariants as packet
use Rattle.source_table.specs.declared.source.Heard.{Heard}
use Rattle.source_table.specs.declared.source.Packet.{Packet}
use Rattle.source_table.specs.declared.source.Source.{Source}
use Rattle.source_table.specs.declared.answers.Named.{Named}
use Rattle.source_table.specs.declared.answers.Named.TheVariants.{Unknown, Same, Changed}
use Rattle.source_table.specs.Sources.{report_next, left_next}
use Rattle.source_table.specs.declared.answers.Refuse.{Refuse}
use Rattle.source_table.specs.Table.{Table, kept, packet_of, changed_by, gone, expired, blocks, all_reported}
use Rattle.source_table.specs.Answers.{heard, heard_next, heard_next_by, named, name_next_by}
use Rattle.front_model.specs.Given.{Setting, Given, Rtp, Rtcp, Report, Ask, Hears, Names, Reports, Leaves, Closes, is_quick, is_cname, chunk_asks, name_asks, other_asks, asks_of, asks, table}
use Rattle.front_model.specs.Probation.{Kept, kept_at, answer, waiting, waiting_next, is_removed}
use Rattle.front_model.specs.Notes.{Note, Gone, Says, packet_notes, ask_notes, notes_along, notes}
use Rattle.front_model.specs.Reports.{report_bytes}
use Rattle.rtp_session.specs.Compounds.{call_notes, call_next, calls_notes, calls_next}
use Rattle.rtp_session.specs.Runs.{Runs, run_of}
use Rattle.rtp_session.specs.Standing.{Holding, State, IsHolding, Holds, StandsFor, StandsAfter, is_want_of_memory}
use Rattle.rtp_session.specs.Answers.{compound_notes, given_after}
use Rattle.rtcp_wire.specs.Answers.{Fails}
use Rattle.rtcp_wire.specs.declared.block.ReportBlock.{ReportBlock}
use Rattle.rtcp_wire.specs.declared.fault.RtcpFault.{RtcpFault}
use Rattle.rtcp_wire.specs.declared.fault.RtcpFault.TheVariants.{Short, Version, Length, Padding, First, Body, OutOfMemory}
use Rattle.rtp_session.proofs.Each.{each_joined}

-- ---- a session

-- a session by its fields
abbrev pub state_of : ℕ → ℕ → Bool → List ℕ → Table → Runs → State
state_of own heard failed quick sources held = record {
  own = own;
  heard = heard;
  failed = failed;
  holding = record { quick = quick; sources = sources; held = held };
}

-- what a session holds, seen by its fields
pub held_by : (x value : State) (s : Setting) (older : List Given) → x ≡ value → StandsFor value s older → IsHolding x.holding s older
unfolding Holds
held_by x value s older e stands = subst (λ (v : State). Holds v.holding s older) (sym e) stands.holds

pub own_of : (x value : State) (s : Setting) (older : List Given) → x ≡ value → StandsFor value s older → x.own ≡ s.own
own_of x value s older e stands = ap (λ (v : State). v.own) e ∙ stands.own

pub works : (x value : State) (s : Setting) (older : List Given) → x ≡ value → StandsFor value s older → x.failed ≡ false
works x value s older e stands = ap (λ (v : State). v.failed) e ∙ stands.works

pub stands_for : (x : State) (s : Setting) (older : List Given) → x.own ≡ s.own → x.failed ≡ false → IsHolding x.holding s older → StandsFor x s older
unfolding Holds
stands_for x s older own here holds = record { own = own; works = here; holds = holds }

-- ---- a packet

-- what it was to the table
pub heard_as : (h : Holding) (s : Setting) (older : List Given) (now : ℕ) (from : Address) (view : View) (rate : Option ℕ) (quick : Bool) → IsHolding h s older → quick ≡ list_any (nat_eq view.ssrc) h.quick
    → heard h.sources from view.ssrc (packet_of h.sources now view rate quick) ≡ answer s (asks older) now from view rate
heard_as h s older now from view rate quick stands e = λ i. heard (stands.sources i) from view.ssrc (packet_of (stands.sources i) now view rate ((e ∙ stands.quick view.ssrc) i))

pub packet_told : (h : Holding) (s : Setting) (older : List Given) (now : ℕ) (from : Address) (view : View) (rate : Option ℕ) (ns : List Note) (r : Result Heard Refuse) → IsHolding h s older
    → ns ≡ packet_notes (run_of h.held view.ssrc) (kept_at now view) r → r ≡ answer s (asks older) now from view rate → ns ≡ notes s older (Rtp now from view rate)
packet_told h s older now from view rate ns r stands e a =
    e
    ∙ (λ i. packet_notes (stands.held view.ssrc i) (kept_at now view) (a i))
    ∙ sym (append-nil (packet_notes (waiting s view.ssrc (asks older)) (kept_at now view) (answer s (asks older) now from view rate)))

pub packet_kept : (old new : Holding) (s : Setting) (older : List Given) (now : ℕ) (from : Address) (view : View) (rate : Option ℕ) (quick : Bool) (r : Result Heard Refuse) → IsHolding old s older
    → quick ≡ list_any (nat_eq view.ssrc) old.quick → r ≡ answer s (asks older) now from view rate → new.quick ≡ old.quick
    → new.sources ≡ heard_next old.sources from view.ssrc (packet_of old.sources now view rate quick)
    → ((q : ℕ) → run_of new.held q ≡ cond (nat_eq q view.ssrc) (waiting_next (run_of old.held q) (kept_at now view) r) (run_of old.held q))
    → IsHolding new s (Rtp now from view rate ∷ older)
packet_kept old new s older now from view rate quick r stands e a known sources held = record {
  quick = λ q. ap (λ (l : List ℕ). list_any (nat_eq q) l) known ∙ stands.quick q;
  sources =
      sources ∙ (λ i. heard_next (stands.sources i) from view.ssrc (packet_of (stands.sources i) now view rate ((e ∙ stands.quick view.ssrc) i)));
  held = λ q. held q ∙ (λ i. cond (nat_eq q view.ssrc) (waiting_next (stands.held q i) (kept_at now view) (a i)) (stands.held q i));
}

-- ---- a compound

-- a call that a compound makes
abbrev pub IsTalk : Ask → Type 0
IsTalk (Names ssrc text) = Unit {0}
IsTalk (Reports now ssrc seconds fraction rtp) = Unit {0}
IsTalk (Leaves ssrc) = Unit {0}
IsTalk (Hears now from view rate) = ⊥
IsTalk (Closes now timeout) = ⊥

abbrev pub AllTalk : List Ask → Type 0
AllTalk calls = AllByRecursion IsTalk calls

pub turns : (x : Ask) (xs before : List Ask) → reverse (x ∷ xs) ++ before ≡ reverse xs ++ x ∷ before
turns x xs before = ap (λ (l : List Ask). l ++ before) (reverse-append (x ∷ []) xs) ∙ append_assoc (reverse xs) (x ∷ []) before

table_of : (s : Setting) (before : List Ask) (call : Ask) → IsTalk call → table s (call ∷ before) ≡ call_next (table s before) call
table_of s before (Names ssrc text) h = refl
table_of s before (Reports now ssrc seconds fraction rtp) h = refl
table_of s before (Leaves ssrc) h = refl
table_of s before (Hears now from view rate) h = absurd h
table_of s before (Closes now timeout) h = absurd h

note_of : (s : Setting) (before : List Ask) (call : Ask) → IsTalk call → ask_notes s before call ≡ call_notes (table s before) call
note_of s before (Names ssrc text) h = refl
note_of s before (Reports now ssrc seconds fraction rtp) h = refl
note_of s before (Leaves ssrc) h = refl
note_of s before (Hears now from view rate) h = absurd h
note_of s before (Closes now timeout) h = absurd h

waits_of : (s : Setting) (ssrc : ℕ) (before : List Ask) (call : Ask) → IsTalk call → waiting s ssrc (call ∷ before) ≡ waiting s ssrc before
waits_of s ssrc before (Names x text) h = refl
waits_of s ssrc before (Reports now x seconds fraction rtp) h = refl
waits_of s ssrc before (Leaves x) h = refl
waits_of s ssrc before (Hears now from view rate) h = absurd h
waits_of s ssrc before (Closes now timeout) h = absurd h

table_after : (s : Setting) (before calls : List Ask) → AllTalk calls → table s (reverse calls ++ before) ≡ calls_next (table s before) calls
table_after s before [] h = refl
table_after s before (x ∷ xs) h =
    ap (table s) (turns x xs before) ∙ table_after s (x ∷ before) xs h.1 ∙ ap (λ (t : Table). calls_next t xs) (table_of s before x h.0)

waits_after : (s : Setting) (ssrc : ℕ) (before calls : List Ask) → AllTalk calls → waiting s ssrc (reverse calls ++ before) ≡ waiting s ssrc before
waits_after s ssrc before [] h = refl
waits_after s ssrc before (x ∷ xs) h = ap (waiting s ssrc) (turns x xs before) ∙ waits_after s ssrc (x ∷ before) xs h.1 ∙ waits_of s ssrc before x h.0

notes_after : (s : Setting) (before calls : List Ask) → AllTalk calls → notes_along s before calls ≡ calls_notes (table s before) calls
notes_after s before [] h = refl
notes_after s before (x ∷ xs) h = λ i. note_of s before x h.0 i ++ (notes_after s (x ∷ before) xs h.1 ∙ ap (λ (t : Table). calls_notes t xs) (table_of s before x h.0)) i

chunk_by : (ssrc : ℕ) (o : Option SdesItem) → AllTalk (option_to_list (option_map (λ item. Names ssrc item.text) o))
chunk_by ssrc None = tt
chunk_by ssrc (Some item) = (tt, tt)

chunks_talk : (chunks : List Chunk) → AllTalk (flat_map chunk_asks chunks)
chunks_talk [] = tt
chunks_talk (x ∷ xs) = each_joined IsTalk (chunk_asks x) (flat_map chunk_asks xs) (chunk_by x.ssrc (find is_cname x.items)) (chunks_talk xs)

name_talks : (p : RtcpPacket) → AllTalk (name_asks p)
name_talks (packet.Sdes chunks) = chunks_talk chunks
name_talks (packet.Sr ssrc seconds fraction rtp packets octets blocks rest) = tt
name_talks (packet.Rr ssrc blocks rest) = tt
name_talks (packet.Bye ssrcs reason) = tt
name_talks (packet.App subtype ssrc name rest) = tt
name_talks (packet.Nacks sender media list) = tt
name_talks (packet.Feedback kind format sender media rest) = tt
name_talks (packet.Unknown kind count rest) = tt

leaves_talk : (ssrcs : List ℕ) → AllTalk (map Leaves ssrcs)
leaves_talk [] = tt
leaves_talk (x ∷ xs) = (tt, leaves_talk xs)

other_talks : (now : ℕ) (p : RtcpPacket) → AllTalk (other_asks now p)
other_talks now (packet.Sr ssrc seconds fraction rtp packets octets blocks rest) = (tt, tt)
other_talks now (packet.Bye ssrcs reason) = leaves_talk ssrcs
other_talks now (packet.Sdes chunks) = tt
other_talks now (packet.Rr ssrc blocks rest) = tt
other_talks now (packet.App subtype ssrc name rest) = tt
other_talks now (packet.Nacks sender media list) = tt
other_talks now (packet.Feedback kind format sender media rest) = tt
other_talks now (packet.Unknown kind count rest) = tt

names_talk : (ps : List RtcpPacket) → AllTalk (flat_map name_asks ps)
names_talk [] = tt
names_talk (p ∷ ps) = each_joined IsTalk (name_asks p) (flat_map name_asks ps) (name_talks p) (names_talk ps)

others_talk : (now : ℕ) (ps : List RtcpPacket) → AllTalk (flat_map (other_asks now) ps)
others_talk now [] = tt
others_talk now (p ∷ ps) = each_joined IsTalk (other_asks now p) (flat_map (other_asks now) ps) (other_talks now p) (others_talk now ps)

pub compound_talks : (now : ℕ) (ps : List RtcpPacket) → AllTalk (asks_of (Rtcp now ps))
compound_talks now ps = each_joined IsTalk (flat_map name_asks ps) (flat_map (other_asks now) ps) (names_talk ps) (others_talk now ps)

pub compound_told : (h : Holding) (s : Setting) (older : List Given) (now : ℕ) (ps : List RtcpPacket) → IsHolding h s older → calls_notes h.sources (asks_of (Rtcp now ps)) ≡ notes s older (Rtcp now ps)
compound_told h s older now ps stands =
    ap (λ (t : Table). calls_notes t (asks_of (Rtcp now ps))) stands.sources ∙ sym (notes_after s (asks older) (asks_of (Rtcp now ps)) (compound_talks now ps))

pub compound_kept : (old new : Holding) (s : Setting) (older : List Given) (now : ℕ) (ps : List RtcpPacket) → IsHolding old s older → new.quick ≡ old.quick
    → new.sources ≡ calls_next old.sources (asks_of (Rtcp now ps)) → new.held ≡ old.held → IsHolding new s (Rtcp now ps ∷ older)
compound_kept old new s older now ps stands known sources held = record {
  quick = λ q. ap (λ (l : List ℕ). list_any (nat_eq q) l) known ∙ stands.quick q;
  sources =
      sources ∙ ap (λ (t : Table). calls_next t (asks_of (Rtcp now ps))) stands.sources ∙ sym (table_after s (asks older) (asks_of (Rtcp now ps)) (compound_talks now ps));
  held = λ q.
      ap (λ (r : Runs). run_of r q) held ∙ stands.held q ∙ sym (waits_after s q (asks older) (asks_of (Rtcp now ps)) (compound_talks now ps));
}

-- ---- a datagram that is no compound

pub faults_told : (s : Setting) (older : List Given) (now : ℕ) (fault : RtcpFault) (r : Result (List RtcpPacket) RtcpFault) → Fails fault r → Fails fault (compound_notes s older now r)
faults_told s older now (Short offset) r e = ap (compound_notes s older now) e
faults_told s older now (Version offset) r e = ap (compound_notes s older now) e
faults_told s older now (Length offset) r e = ap (compound_notes s older now) e
faults_told s older now (Padding offset) r e = ap (compound_notes s older now) e
faults_told s older now (First offset) r e = ap (compound_notes s older now) e
faults_told s older now (Body offset kind) r e = ap (compound_notes s older now) e
faults_told s older now OutOfMemory r e = tt

nothing_given : (x : State) (s : Setting) (older : List Given) (now : ℕ) (fault : RtcpFault) (r : Result (List RtcpPacket) RtcpFault) → r ≡ Err fault → StandsFor x s older → StandsFor x s (given_after older now r)
nothing_given x s older now fault r e stands = subst (λ (q : Result (List RtcpPacket) RtcpFault). StandsFor x s (given_after older now q)) (sym e) stands

pub faults_kept : (X : Type 0) (own heard : ℕ) (quick : List ℕ) (sources : Table) (held : Runs) (s : Setting) (older : List Given) (now : ℕ) (fault : RtcpFault) (r : Result (List RtcpPacket) RtcpFault)
    → Fails fault r → StandsFor (state_of own heard false quick sources held) s older
    → StandsAfter {X = X} (state_of own heard (is_want_of_memory fault) quick sources held) s older now r (Err fault)
faults_kept X own heard quick sources held s older now (Short offset) r e stands = nothing_given (state_of own heard false quick sources held) s older now (Short offset) r e stands
faults_kept X own heard quick sources held s older now (Version offset) r e stands = nothing_given (state_of own heard false quick sources held) s older now (Version offset) r e stands
faults_kept X own heard quick sources held s older now (Length offset) r e stands = nothing_given (state_of own heard false quick sources held) s older now (Length offset) r e stands
faults_kept X own heard quick sources held s older now (Padding offset) r e stands = nothing_given (state_of own heard false quick sources held) s older now (Padding offset) r e stands
faults_kept X own heard quick sources held s older now (First offset) r e stands = nothing_given (state_of own heard false quick sources held) s older now (First offset) r e stands
faults_kept X own heard quick sources held s older now (Body offset kind) r e stands = nothing_given (state_of own heard false quick sources held) s older now (Body offset kind) r e stands
faults_kept X own heard quick sources held s older now OutOfMemory r e stands = tt

abbrev wants : {X : Type 0} → Result X RtcpFault → Bool
wants (Ok x) = false
wants (Err fault) = is_want_of_memory fault

pub memory_fails : {X : Type 0} (r : Result X RtcpFault) (fault : RtcpFault) → r ≡ Err fault → r ≡ Err OutOfMemory → is_want_of_memory fault ≡ true
memory_fails r fault e memory = ap wants (sym e ∙ memory)

-- ---- how many packets the table heard

pub one_heard : (t : Table) (from : Address) (ssrc : ℕ) (p : Packet) (r : Result Heard Refuse) → (heard_next_by t from ssrc p r).heard ≤ t.heard + 1
one_heard t from ssrc p (Ok h) = omega arith
one_heard t from ssrc p (Err refuse) = omega arith

changed_heard : (t : Table) (ssrc : ℕ) (o : Option Source) (f : Source → Source) → (changed_by t ssrc o f).heard ≡ t.heard
changed_heard t ssrc None f = refl
changed_heard t ssrc (Some x) f = refl

named_heard : (t : Table) (ssrc : ℕ) (text : List ℕ) (n : Named) → (name_next_by t ssrc text n).heard ≡ t.heard
named_heard t ssrc text Changed = refl
named_heard t ssrc text Same = refl
named_heard t ssrc text Unknown = refl

call_heard : (t : Table) (call : Ask) → (call_next t call).heard ≡ t.heard
call_heard t (Names ssrc text) = named_heard t ssrc text (named t ssrc text)
call_heard t (Reports now ssrc seconds fraction rtp) = changed_heard t ssrc (kept t ssrc) (λ x. report_next x now seconds fraction)
call_heard t (Leaves ssrc) = changed_heard t ssrc (kept t ssrc) left_next
call_heard t (Hears now from view rate) = refl
call_heard t (Closes now timeout) = refl

pub calls_heard : (t : Table) (calls : List Ask) → (calls_next t calls).heard ≡ t.heard
calls_heard t [] = refl
calls_heard t (x ∷ xs) = calls_heard (call_next t x) xs ∙ call_heard t x

-- ---- a report time

pub report_told : (h : Holding) (s : Setting) (older : List Given) (now timeout own : ℕ) (gs : List ℕ) (mid : Table) (bs : List ReportBlock) (bytes : List ℕ) → IsHolding h s older → own ≡ s.own
    → gs ≡ gone h.sources now timeout → mid ≡ expired h.sources now timeout → bs ≡ blocks mid now → bytes ≡ report_bytes own bs
    → map Gone gs ++ Says bytes ∷ [] ≡ notes s older (Report now timeout)
report_told h s older now timeout own gs mid bs bytes stands mine gs_are mid_is bs_are bytes_are =
    (λ i.
    map Gone ((gs_are ∙ ap (λ (t : Table). gone t now timeout) stands.sources) i)
    ++ Says ((bytes_are ∙ (λ j. report_bytes (mine j) ((bs_are ∙ ap (λ (m : Table). blocks m now) (mid_is ∙ ap (λ (t : Table). expired t now timeout) stands.sources)) j))) i) ∷ [])
    ∙ sym (append-nil (map Gone (gone (table s (asks older)) now timeout) ++ Says (report_bytes s.own (blocks (expired (table s (asks older)) now timeout) now)) ∷ []))

pub report_kept : (old new : Holding) (s : Setting) (older : List Given) (now timeout : ℕ) → IsHolding old s older → new.quick ≡ old.quick
    → new.sources ≡ all_reported (expired old.sources now timeout)
    → ((q : ℕ) → run_of new.held q ≡ cond (list_any (nat_eq q) (gone old.sources now timeout)) [] (run_of old.held q))
    → ((q : ℕ) → list_any (nat_eq q) (gone (table s (asks older)) now timeout) ≡ is_removed (kept (table s (asks older)) q) now timeout)
    → IsHolding new s (Report now timeout ∷ older)
report_kept old new s older now timeout stands known sources held removed = record {
  quick = λ q. ap (λ (l : List ℕ). list_any (nat_eq q) l) known ∙ stands.quick q;
  sources = sources ∙ ap (λ (t : Table). all_reported (expired t now timeout)) stands.sources;
  held = λ q.
      held q ∙ (λ i. cond ((ap (λ (t : Table). list_any (nat_eq q) (gone t now timeout)) stands.sources ∙ removed q) i) [] (stands.held q i));
}
