-- What a session tells is in its ranges, and little of it goes on.
use Rattle.std.proofs.Common.{ℕ, ◌≡◌, ◌≤◌, ◌<◌, ◌^◌, Bool, true, false, refl, List, [], ◌∷◌, Option, None, Some, length, arith}
use Rattle.std.specs.Prelude.{if◌then◌else◌, nat_eq, ◌==◌, map, reverse, flat_map, find, is_some, option_map, option_to_list, Result, Ok, Err}
use Rattle.std.specs.List.{AllByRecursion, list_all}
use Rattle.rtp_units.specs.Numbers.{ntp_time}
use Rattle.rtcp_wire.specs.declared.packet.Chunk.{Chunk}
use Rattle.rtcp_wire.specs.declared.packet.SdesItem.{SdesItem}
use Rattle.rtcp_wire.specs.declared.packet.Rtcp.{Rtcp as RtcpPacket}
use Rattle.rtcp_wire.specs.declared.packet.Rtcp.TheVariants as packet
use Rattle.source_table.specs.declared.source.Heard.{Heard}
use Rattle.source_table.specs.declared.source.Heard.TheVariants.{Waiting, NowValid, Valid}
use Rattle.source_table.specs.declared.answers.Refuse.{Refuse}
use Rattle.source_table.specs.declared.answers.Refuse.TheVariants as refuse
use Rattle.source_table.specs.declared.answers.Named.{Named}
use Rattle.source_table.specs.declared.answers.Named.TheVariants.{Unknown, Same, Changed}
use Rattle.source_table.specs.Answers.{named}
use Rattle.source_table.specs.Table.{kept, gone, expired, blocks}
use Rattle.script_lang.specs.Contents.{Contents}
use Rattle.script_lang.specs.Entries.{session_fits}
use Rattle.front_model.specs.Events.{FrontEvent, Came, ReportsDue, Requested}
use Rattle.front_model.specs.Given.{Setting, Given, Rtp, Rtcp, Report, Ask, Hears, Names, Reports, Leaves, Closes, is_cname, chunk_asks, name_asks, other_asks, asks_of, asks, table}
use Rattle.front_model.specs.Probation.{Kept, kept_at, answer, waiting_next, is_removed, waiting}
use Rattle.front_model.specs.Reports.{report_bytes}
use Rattle.front_model.specs.Notes.{Note, Holds, Drops, Releases, NewName, Synced, Stray, Left, Gone, Says, broken, packet_notes, name_notes, ask_notes, notes_along, notes}
use Rattle.front_model.specs.Records.{Holding, Nothing, BadPacket, BadCompound, Packet, Compound, holding}
use Rattle.front_model.specs.Sessions.{given_in, given_of, given}
use Rattle.front_model.specs.Types.{rate}
use Rattle.replay_model.specs.Fitting.{IsComing, AreComing}
use Rattle.replay_ranges.proofs.Lists.{each_append, each_reverse, each_map, each_flat, IsAny, any_each, total, total_append, total_zero, total_one, total_at_most, total_map, total_flat}
use Rattle.replay_ranges.proofs.Views.{IsView, IsReport, IsHolding, holding_held}
use Rattle.replay_ranges.proofs.Waiting.{FewWait}

-- ---- packets that wait

pub record IsKept (k : Kept) : Type 0 where
  pub stamp : k.stamp < 2 ^ 63
  pub packet : IsView k.packet

abbrev pub IsAsk : Ask → Type 0
IsAsk (Hears now from view rate) = (now < 2 ^ 63) × IsView view
IsAsk (Names ssrc text) = Unit {0}
IsAsk (Reports now ssrc seconds fraction rtp) = (seconds < 2 ^ 32) × (fraction < 2 ^ 32) × (rtp < 2 ^ 32)
IsAsk (Leaves ssrc) = Unit {0}
IsAsk (Closes now timeout) = Unit {0}

next_each : (ks : List Kept) (k : Kept) (r : Result Heard Refuse) → AllByRecursion IsKept ks → IsKept k → AllByRecursion IsKept (waiting_next ks k r)
next_each ks k (Ok (Waiting true)) h one = (one, tt)
next_each ks k (Ok (Waiting false)) h one = each_append IsKept ks (k ∷ []) h (one, tt)
next_each ks k (Ok NowValid) h one = tt
next_each ks k (Ok Valid) h one = h
next_each ks k (Err why) h one = h

kept_if : (b : Bool) (xs ys : List Kept) → AllByRecursion IsKept xs → AllByRecursion IsKept ys → AllByRecursion IsKept (if b then xs else ys)
kept_if true xs ys h k = h
kept_if false xs ys h k = k

waiting_each : (s : Setting) (ssrc : ℕ) (asks : List Ask) → AllByRecursion IsAsk asks → AllByRecursion IsKept (waiting s ssrc asks)
waiting_each s ssrc [] h = tt
waiting_each s ssrc (Hears now from view rate ∷ before) h =
    let older : AllByRecursion IsKept (waiting s ssrc before) = waiting_each s ssrc before h.1 in
    kept_if (nat_eq ssrc view.ssrc) (waiting_next (waiting s ssrc before) (kept_at now view) (answer s before now from view rate)) (waiting s ssrc before)
    (next_each (waiting s ssrc before) (kept_at now view) (answer s before now from view rate) older (record { stamp = h.0.0; packet = h.0.1 })) older
waiting_each s ssrc (Names x text ∷ before) h = waiting_each s ssrc before h.1
waiting_each s ssrc (Reports now x seconds fraction rtp ∷ before) h = waiting_each s ssrc before h.1
waiting_each s ssrc (Leaves x ∷ before) h = waiting_each s ssrc before h.1
waiting_each s ssrc (Closes now timeout ∷ before) h =
    kept_if (is_removed (kept (table s before) ssrc) now timeout) [] (waiting s ssrc before) tt (waiting_each s ssrc before h.1)

-- ---- notes

abbrev pub IsNote : Note → Type 0
IsNote (Holds k) = Unit {0}
IsNote (Drops k why) = Unit {0}
IsNote (Releases k) = IsKept k
IsNote (NewName ssrc name) = Unit {0}
IsNote (Synced ssrc ntp rtp) = (ntp < 2 ^ 63) × (rtp < 2 ^ 32)
IsNote (Stray ssrc) = Unit {0}
IsNote (Left ssrc) = Unit {0}
IsNote (Gone ssrc) = Unit {0}
IsNote (Says bytes) = Unit {0}

ntp_small : (seconds fraction : ℕ) → seconds < 2 ^ 32 → fraction < 2 ^ 32 → ntp_time seconds fraction < 2 ^ 63
ntp_small seconds fraction s f = omega (arith, s, f)

packet_each : (ks : List Kept) (k : Kept) (r : Result Heard Refuse) → AllByRecursion IsKept ks → IsKept k → AllByRecursion IsNote (packet_notes ks k r)
packet_each ks k (Ok (Waiting true)) h one = each_append IsNote (map broken ks) (Holds k ∷ []) (each_map IsNote IsKept broken (λ x g. tt) ks h) (tt, tt)
packet_each ks k (Ok (Waiting false)) h one = (tt, tt)
packet_each ks k (Ok NowValid) h one = each_append IsNote (map Releases ks) (Releases k ∷ []) (each_map IsNote IsKept Releases (λ x g. g) ks h) (one, tt)
packet_each ks k (Ok Valid) h one = (one, tt)
packet_each ks k (Err refuse.Own) h one = (tt, tt)
packet_each ks k (Err refuse.LimitSources) h one = (tt, tt)
packet_each ks k (Err (refuse.Collision first other)) h one = (tt, tt)
packet_each ks k (Err refuse.OutOfMemory) h one = tt

name_note_each : (ssrc : ℕ) (text : List ℕ) (n : Named) → AllByRecursion IsNote (name_notes ssrc text n)
name_note_each ssrc text Changed = (tt, tt)
name_note_each ssrc text Same = tt
name_note_each ssrc text Unknown = tt

notes_if : (b : Bool) (xs ys : List Note) → AllByRecursion IsNote xs → AllByRecursion IsNote ys → AllByRecursion IsNote (if b then xs else ys)
notes_if true xs ys h k = h
notes_if false xs ys h k = k

ask_each : (s : Setting) (before : List Ask) (ask : Ask) → AllByRecursion IsAsk before → IsAsk ask → AllByRecursion IsNote (ask_notes s before ask)
ask_each s before (Hears now from view rate) h one =
    packet_each (waiting s view.ssrc before) (kept_at now view) (answer s before now from view rate) (waiting_each s view.ssrc before h) (record { stamp = one.0; packet = one.1 })
ask_each s before (Names ssrc text) h one = name_note_each ssrc text (named (table s before) ssrc text)
ask_each s before (Reports now ssrc seconds fraction rtp) h one =
    notes_if (is_some (kept (table s before) ssrc)) (Synced ssrc (ntp_time seconds fraction) rtp ∷ []) (Stray ssrc ∷ [])
    ((ntp_small seconds fraction one.0 one.1, one.2), tt) (tt, tt)
ask_each s before (Leaves ssrc) h one = notes_if (is_some (kept (table s before) ssrc)) (Left ssrc ∷ []) [] (tt, tt) tt
ask_each s before (Closes now timeout) h one =
    each_append IsNote (map Gone (gone (table s before) now timeout)) (Says (report_bytes s.own (blocks (expired (table s before) now timeout) now)) ∷ [])
    (each_map IsNote IsAny Gone (λ x g. tt) (gone (table s before) now timeout) (any_each (gone (table s before) now timeout))) (tt, tt)

along_each : (s : Setting) (before more : List Ask) → AllByRecursion IsAsk before → AllByRecursion IsAsk more → AllByRecursion IsNote (notes_along s before more)
along_each s before [] h g = tt
along_each s before (ask ∷ more) h g =
    each_append IsNote (ask_notes s before ask) (notes_along s (ask ∷ before) more) (ask_each s before ask h g.0) (along_each s (ask ∷ before) more (g.0, h) g.1)

-- ---- what a session is given

abbrev pub IsGiven : Given → Type 0
IsGiven (Rtp now from view rate) = (now < 2 ^ 63) × IsView view
IsGiven (Rtcp now packets) = AllByRecursion IsReport packets
IsGiven (Report now timeout) = Unit {0}

cname_each : (ssrc : ℕ) (o : Option SdesItem) → AllByRecursion IsAsk (option_to_list (option_map (λ item. Names ssrc item.text) o))
cname_each ssrc None = tt
cname_each ssrc (Some item) = (tt, tt)

chunk_each : (chunk : Chunk) → AllByRecursion IsAsk (chunk_asks chunk)
chunk_each chunk = cname_each chunk.ssrc (find is_cname chunk.items)

name_each : (p : RtcpPacket) → AllByRecursion IsAsk (name_asks p)
name_each (packet.Sdes chunks) = each_flat IsAsk IsAny chunk_asks (λ chunk g. chunk_each chunk) chunks (any_each chunks)
name_each (packet.Sr ssrc seconds fraction rtp packets octets blocks rest) = tt
name_each (packet.Rr ssrc blocks rest) = tt
name_each (packet.Bye ssrcs reason) = tt
name_each (packet.App subtype ssrc name rest) = tt
name_each (packet.Nacks sender media list) = tt
name_each (packet.Feedback kind format sender media rest) = tt
name_each (packet.Unknown kind count rest) = tt

other_each : (now : ℕ) (p : RtcpPacket) → IsReport p → AllByRecursion IsAsk (other_asks now p)
other_each now (packet.Sr ssrc seconds fraction rtp packets octets blocks rest) h = (h, tt)
other_each now (packet.Bye ssrcs reason) h = each_map IsAsk IsAny Leaves (λ x g. tt) ssrcs (any_each ssrcs)
other_each now (packet.Sdes chunks) h = tt
other_each now (packet.Rr ssrc blocks rest) h = tt
other_each now (packet.App subtype ssrc name rest) h = tt
other_each now (packet.Nacks sender media list) h = tt
other_each now (packet.Feedback kind format sender media rest) h = tt
other_each now (packet.Unknown kind count rest) h = tt

asked_each : (g : Given) → IsGiven g → AllByRecursion IsAsk (asks_of g)
asked_each (Rtp now from view rate) h = (h, tt)
asked_each (Rtcp now packets) h =
    each_append IsAsk (flat_map name_asks packets) (flat_map (other_asks now) packets)
    (each_flat IsAsk IsAny name_asks (λ p g. name_each p) packets (any_each packets))
    (each_flat IsAsk IsReport (other_asks now) (λ p g. other_each now p g) packets h)
asked_each (Report now timeout) h = (tt, tt)

asks_each : (gs : List Given) → AllByRecursion IsGiven gs → AllByRecursion IsAsk (asks gs)
asks_each [] h = tt
asks_each (g ∷ older) h = each_append IsAsk (reverse (asks_of g)) (asks older) (each_reverse IsAsk (asks_of g) (asked_each g h.0)) (asks_each older h.1)

pub notes_each : (s : Setting) (older : List Given) (g : Given) → AllByRecursion IsGiven older → IsGiven g → AllByRecursion IsNote (notes s older g)
notes_each s older g h one = along_each s (asks older) (asks_of g) (asks_each older h) (asked_each g one)

-- ---- what records give a session

only_each : (b : Bool) (g : Given) → IsGiven g → AllByRecursion IsGiven (if b then g ∷ [] else [])
only_each true g h = (h, tt)
only_each false g h = tt

in_each : (c : Contents) (session time : ℕ) (x : Holding) → time < 2 ^ 63 → IsHolding x → AllByRecursion IsGiven (given_in c session time x)
in_each c session time (Packet of from p) early h = only_each (of == session) (Rtp time from p (rate c of p.pt)) (early, h.1)
in_each c session time (Compound of packets) early h = only_each (of == session) (Rtcp time packets) h.2
in_each c session time (Nothing why) early h = tt
in_each c session time (BadPacket of fault) early h = tt
in_each c session time (BadCompound of fault) early h = tt

of_each : (c : Contents) (session : ℕ) (e : FrontEvent) → list_all session_fits c.sessions ≡ true → IsComing e → AllByRecursion IsGiven (given_of c session e)
of_each c session (Came time r) fits h = in_each c session time (holding c.sessions r) h.early (holding_held c.sessions r fits h.bytes).fact
of_each c session (ReportsDue time) fits h = (tt, tt)
of_each c session (Requested r) fits h = tt

pub given_each : (c : Contents) (session : ℕ) (events : List FrontEvent) → list_all session_fits c.sessions ≡ true → AreComing events → AllByRecursion IsGiven (given c session events)
given_each c session [] fits h = tt
given_each c session (e ∷ older) fits h = each_append IsGiven (given_of c session e) (given c session older) (of_each c session e fits h.0) (given_each c session older fits h.1)

-- ---- how much goes on: packets, and so many for each sender report

abbrev pub weight : ℕ → Note → ℕ
weight n (Holds k) = 0
weight n (Drops k why) = 0
weight n (Releases k) = 1
weight n (NewName ssrc name) = 0
weight n (Synced ssrc ntp rtp) = n
weight n (Stray ssrc) = 0
weight n (Left ssrc) = 0
weight n (Gone ssrc) = 0
weight n (Says bytes) = 0

abbrev asked : ℕ → Ask → ℕ
asked n (Hears now from view rate) = 16
asked n (Names ssrc text) = 0
asked n (Reports now ssrc seconds fraction rtp) = n
asked n (Leaves ssrc) = 0
asked n (Closes now timeout) = 0

packet_few : (n : ℕ) (ks : List Kept) (k : Kept) (r : Result Heard Refuse) → length ks ≤ 15 → total (weight n) (packet_notes ks k r) ≤ 16
packet_few n ks k (Ok (Waiting true)) few =
    omega (arith, total_append (weight n) (map broken ks) (Holds k ∷ []), total_map (weight n) broken ks, total_zero (λ x. weight n (broken x)) (λ x. refl) ks)
packet_few n ks k (Ok (Waiting false)) few = omega arith
packet_few n ks k (Ok NowValid) few =
    omega (arith, few, total_append (weight n) (map Releases ks) (Releases k ∷ []), total_map (weight n) Releases ks, total_one (λ x. weight n (Releases x)) (λ x. refl) ks)
packet_few n ks k (Ok Valid) few = omega arith
packet_few n ks k (Err refuse.Own) few = omega arith
packet_few n ks k (Err refuse.LimitSources) few = omega arith
packet_few n ks k (Err (refuse.Collision first other)) few = omega arith
packet_few n ks k (Err refuse.OutOfMemory) few = omega arith

name_few : (n ssrc : ℕ) (text : List ℕ) (x : Named) → total (weight n) (name_notes ssrc text x) ≤ 0
name_few n ssrc text Changed = omega arith
name_few n ssrc text Same = omega arith
name_few n ssrc text Unknown = omega arith

report_few : (n ssrc ntp rtp : ℕ) (b : Bool) → total (weight n) (if b then Synced ssrc ntp rtp ∷ [] else Stray ssrc ∷ []) ≤ n
report_few n ssrc ntp rtp true = omega arith
report_few n ssrc ntp rtp false = omega arith

left_few : (n ssrc : ℕ) (b : Bool) → total (weight n) (if b then Left ssrc ∷ [] else []) ≤ 0
left_few n ssrc true = omega arith
left_few n ssrc false = omega arith

ask_few : (n : ℕ) (s : Setting) (before : List Ask) (ask : Ask) → FewWait → s.probation ≤ 16 → total (weight n) (ask_notes s before ask) ≤ asked n ask
ask_few n s before (Hears now from view rate) few small = packet_few n (waiting s view.ssrc before) (kept_at now view) (answer s before now from view rate) (few s view.ssrc before small)
ask_few n s before (Names ssrc text) few small = name_few n ssrc text (named (table s before) ssrc text)
ask_few n s before (Reports now ssrc seconds fraction rtp) few small = report_few n ssrc (ntp_time seconds fraction) rtp (is_some (kept (table s before) ssrc))
ask_few n s before (Leaves ssrc) few small = left_few n ssrc (is_some (kept (table s before) ssrc))
ask_few n s before (Closes now timeout) few small =
    let ssrcs : List ℕ = gone (table s before) now timeout in
    let bytes : List ℕ = report_bytes s.own (blocks (expired (table s before) now timeout) now) in
    omega (arith, total_append (weight n) (map Gone ssrcs) (Says bytes ∷ []), total_map (weight n) Gone ssrcs, total_zero (λ x. weight n (Gone x)) (λ x. refl) ssrcs)

along_few : (n : ℕ) (s : Setting) (before more : List Ask) → FewWait → s.probation ≤ 16 → total (weight n) (notes_along s before more) ≤ total (asked n) more
along_few n s before [] few small = omega arith
along_few n s before (ask ∷ more) few small =
    omega (arith, total_append (weight n) (ask_notes s before ask) (notes_along s (ask ∷ before) more), ask_few n s before ask few small, along_few n s (ask ∷ before) more few small)

abbrev sender : ℕ → RtcpPacket → ℕ
sender n (packet.Sr ssrc seconds fraction rtp packets octets blocks rest) = n
sender n (packet.Rr ssrc blocks rest) = 0
sender n (packet.Sdes chunks) = 0
sender n (packet.Bye ssrcs reason) = 0
sender n (packet.App subtype ssrc name rest) = 0
sender n (packet.Nacks from media list) = 0
sender n (packet.Feedback kind format from media rest) = 0
sender n (packet.Unknown kind count rest) = 0

cname_few : (n ssrc : ℕ) (o : Option SdesItem) → total (asked n) (option_to_list (option_map (λ item. Names ssrc item.text) o)) ≤ 0
cname_few n ssrc None = omega arith
cname_few n ssrc (Some item) = omega arith

names_few : (n : ℕ) (p : RtcpPacket) → total (asked n) (name_asks p) ≤ 0
names_few n (packet.Sdes chunks) =
    omega (
      arith,
      total_flat (asked n) (λ (chunk : Chunk). 0) chunk_asks (λ chunk. cname_few n chunk.ssrc (find is_cname chunk.items)) chunks,
      total_zero (λ (chunk : Chunk). 0) (λ chunk. refl) chunks,
    )
names_few n (packet.Sr ssrc seconds fraction rtp packets octets blocks rest) = omega arith
names_few n (packet.Rr ssrc blocks rest) = omega arith
names_few n (packet.Bye ssrcs reason) = omega arith
names_few n (packet.App subtype ssrc name rest) = omega arith
names_few n (packet.Nacks from media list) = omega arith
names_few n (packet.Feedback kind format from media rest) = omega arith
names_few n (packet.Unknown kind count rest) = omega arith

others_few : (n now : ℕ) (p : RtcpPacket) → total (asked n) (other_asks now p) ≤ sender n p
others_few n now (packet.Sr ssrc seconds fraction rtp packets octets blocks rest) = omega arith
others_few n now (packet.Bye ssrcs reason) = omega (arith, total_map (asked n) Leaves ssrcs, total_zero (λ x. asked n (Leaves x)) (λ x. refl) ssrcs)
others_few n now (packet.Sdes chunks) = omega arith
others_few n now (packet.Rr ssrc blocks rest) = omega arith
others_few n now (packet.App subtype ssrc name rest) = omega arith
others_few n now (packet.Nacks from media list) = omega arith
others_few n now (packet.Feedback kind format from media rest) = omega arith
others_few n now (packet.Unknown kind count rest) = omega arith

-- the most that goes on of what a session is given
abbrev pub most : ℕ → Given → ℕ
most n (Rtp now from view rate) = 16
most n (Rtcp now packets) = total (sender n) packets
most n (Report now timeout) = 0

given_few : (n : ℕ) (g : Given) → total (asked n) (asks_of g) ≤ most n g
given_few n (Rtp now from view rate) = omega arith
given_few n (Rtcp now packets) =
    omega (
      arith,
      total_append (asked n) (flat_map name_asks packets) (flat_map (other_asks now) packets),
      total_flat (asked n) (λ (p : RtcpPacket). 0) name_asks (names_few n) packets,
      total_zero (λ (p : RtcpPacket). 0) (λ p. refl) packets,
      total_flat (asked n) (sender n) (other_asks now) (others_few n now) packets,
    )
given_few n (Report now timeout) = omega arith

pub notes_few : (n : ℕ) (s : Setting) (older : List Given) (g : Given) → FewWait → s.probation ≤ 16 → total (weight n) (notes s older g) ≤ most n g
notes_few n s older g few small = omega (arith, along_few n s (asks older) (asks_of g) few small, given_few n g)

no_sender : (p : RtcpPacket) → sender 0 p ≡ 0
no_sender (packet.Sr ssrc seconds fraction rtp packets octets blocks rest) = refl
no_sender (packet.Rr ssrc blocks rest) = refl
no_sender (packet.Sdes chunks) = refl
no_sender (packet.Bye ssrcs reason) = refl
no_sender (packet.App subtype ssrc name rest) = refl
no_sender (packet.Nacks from media list) = refl
no_sender (packet.Feedback kind format from media rest) = refl
no_sender (packet.Unknown kind count rest) = refl

one_sender : (p : RtcpPacket) → sender 1 p ≤ 1
one_sender (packet.Sr ssrc seconds fraction rtp packets octets blocks rest) = omega arith
one_sender (packet.Rr ssrc blocks rest) = omega arith
one_sender (packet.Sdes chunks) = omega arith
one_sender (packet.Bye ssrcs reason) = omega arith
one_sender (packet.App subtype ssrc name rest) = omega arith
one_sender (packet.Nacks from media list) = omega arith
one_sender (packet.Feedback kind format from media rest) = omega arith
one_sender (packet.Unknown kind count rest) = omega arith

-- no packet of a compound goes on
pub no_packets : (packets : List RtcpPacket) → total (sender 0) packets ≡ 0
no_packets packets = total_zero (sender 0) no_sender packets

pub few_reports : (packets : List RtcpPacket) → total (sender 1) packets ≤ length packets
few_reports packets = total_at_most (sender 1) one_sender packets
