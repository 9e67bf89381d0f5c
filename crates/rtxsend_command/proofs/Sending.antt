-- The capture of retransmissions, one record more.
use Rattle.std.proofs.Common.{◌≡◌, ℕ, List, [], ◌∷◌, ◌++◌, length, Option, Result, Ok, Err, refl, sym, ap, ◌∙◌, subst}
use Rattle.std.specs.Prelude.{reverse, OnOk}
use Rattle.std.specs.List.{flat_map}
use Rattle.std.proofs.lemmas.List.{append_assoc, append-nil, reverse-append}
use Rattle.std.proofs.lemmas.List.Concat.{flat_map-append}
use Rattle.pcap_file.specs.Capture.{Record}
use Rattle.pcap_file.specs.Writing.{written_header}
use Rattle.script_lang.specs.declared.script.SessionLine.{SessionLine}
use Rattle.rtx.specs.Answering.{Call}
use Rattle.front_model.specs.Records.{Holding, Nothing, BadPacket, BadCompound, Packet, Compound, holding}
use Rattle.rtp_io.specs.Outside.{AddsFront}
use Rattle.rtp_io.specs.Laws.{adds_then, adds_same, front_then}
use Rattle.timeline.specs.Times.{time_after}
use Rattle.command_core.specs.declared.stop.Stop.{Stop}
use Rattle.command_core.specs.Output.{GoesOn, Starts}
use Rattle.command_core.specs.Steps.{Prints, Writes}
use Rattle.command_core.specs.Takes.{Takes, Finishes}
use Rattle.command_core.specs.Laws.{front_more, prints_write}
use Rattle.nack_answering.specs.Asking.{calls_in, requests_in}
use Rattle.nack_answering.specs.Answering.{Rules, calls}
use Rattle.nack_answering.specs.Standing.{remembered_in}
use Rattle.rtxsend_command.specs.Sent.{raw_ip, header_behind, pieces_of, answers_to, answers_from, sent_part, sent_whole, sent_by}
use Rattle.rtxsend_command.proofs.Answers.{asked}

-- ---- what a record does, in two steps

pub both_steps : (h : Holding) (before : List Call)
    → asked (requests_in h) (remembered_in h ++ before) ≡ reverse (calls_in h) ++ before
both_steps (Nothing why) before = refl
both_steps (BadPacket of fault) before = refl
both_steps (BadCompound of fault) before = refl
both_steps (Packet of from p) before = refl
both_steps (Compound of packets) before = refl

-- A record that is remembered asks for nothing.
pub same_pieces : (rules : Rules) (time : ℕ) (h : Holding) (before : List Call)
    → pieces_of rules time (remembered_in h ++ before) (requests_in h)
    ≡ pieces_of rules time before (requests_in h)
same_pieces rules time (Nothing why) before = refl
same_pieces rules time (BadPacket of fault) before = refl
same_pieces rules time (BadCompound of fault) before = refl
same_pieces rules time (Packet of from p) before = refl
same_pieces rules time (Compound of packets) before = refl

-- the calls of one record more
pub calls_more : (sessions : List SessionLine) (seen : List Record) (r : Record)
    → calls sessions (seen ++ r ∷ [])
    ≡ reverse (calls_in (holding sessions r)) ++ calls sessions seen
calls_more sessions seen r =
    let f = λ (x : Record). calls_in (holding sessions x) in
    ap (λ (l : List Call). reverse l)
    (flat_map-append f seen (r ∷ [])
    ∙ ap (λ (l : List Call). flat_map f seen ++ l) (append-nil (f r)))
    ∙ reverse-append (flat_map f seen) (f r)

-- ---- the answers, one record more

answers_onto : (rules : Rules) (before xs ys : List Record)
    → answers_from rules before (xs ++ ys)
    ≡ answers_from rules before xs ++ answers_from rules (before ++ xs) ys
answers_onto rules before [] ys =
    ap (λ (l : List Record). answers_from rules l ys) (sym (append-nil before))
answers_onto rules before (x ∷ xs) ys =
    ap (λ (l : List ℕ). answers_to rules before x ++ l)
    (answers_onto rules (before ++ x ∷ []) xs ys
    ∙ ap (λ (l : List Record). answers_from rules (before ++ x ∷ []) xs ++ answers_from rules l ys)
    (append_assoc before (x ∷ []) xs))
    ∙ sym (append_assoc (answers_to rules before x) (answers_from rules (before ++ x ∷ []) xs)
    (answers_from rules (before ++ x ∷ xs) ys))

answers_next : (rules : Rules) (seen : List Record) (r : Record)
    → answers_from rules [] (seen ++ r ∷ []) ≡ answers_from rules [] seen ++ answers_to rules seen r
answers_next rules seen r =
    answers_onto rules [] seen (r ∷ [])
    ∙ ap (λ (l : List ℕ). answers_from rules [] seen ++ l) (append-nil (answers_to rules seen r))

part_none : (rules : Rules) → sent_part rules [] ≡ []
unfolding sent_part
part_none rules = refl

part_first : (rules : Rules) (r : Record)
    → sent_part rules (r ∷ []) ≡ written_header raw_ip ++ answers_to rules [] r
unfolding sent_part
part_first rules r =
    ap (λ (l : List ℕ). written_header raw_ip ++ l) (append-nil (answers_to rules [] r))

part_later : (rules : Rules) (q : Record) (seen : List Record) (r : Record)
    → sent_part rules ((q ∷ seen) ++ r ∷ [])
    ≡ sent_part rules (q ∷ seen) ++ answers_to rules (q ∷ seen) r
unfolding sent_part
part_later rules q seen r =
    ap (λ (l : List ℕ). written_header raw_ip ++ l) (answers_next rules (q ∷ seen) r)
    ∙ sym (append_assoc (written_header raw_ip) (answers_from rules [] (q ∷ seen))
    (answers_to rules (q ∷ seen) r))

-- What goes out for one record more, where so many came before.
pub part_next : (rules : Rules) (n : ℕ) (seen : List Record) (r : Record) → n ≡ length seen
    → (sent_part rules seen ++ header_behind n) ++ answers_to rules seen r
    ≡ sent_part rules (seen ++ r ∷ [])
part_next rules n [] r e =
    ap (λ (k : ℕ). (sent_part rules [] ++ header_behind k) ++ answers_to rules [] r) e
    ∙ ap (λ (l : List ℕ). (l ++ written_header raw_ip) ++ answers_to rules [] r) (part_none rules)
    ∙ sym (part_first rules r)
part_next rules n (q ∷ seen) r e =
    ap (λ (k : ℕ). (sent_part rules (q ∷ seen) ++ header_behind k) ++ answers_to rules (q ∷ seen) r) e
    ∙ ap (λ (l : List ℕ). l ++ answers_to rules (q ∷ seen) r) (append-nil (sent_part rules (q ∷ seen)))
    ∙ sym (part_later rules q seen r)

whole_none : (rules : Rules) → sent_whole rules [] ≡ written_header raw_ip
unfolding sent_whole
whole_none rules = append-nil (written_header raw_ip)

whole_some : (rules : Rules) (q : Record) (seen : List Record)
    → sent_whole rules (q ∷ seen) ≡ sent_part rules (q ∷ seen)
unfolding sent_whole sent_part
whole_some rules q seen = refl

-- And what goes out at the end.
pub whole_last : (rules : Rules) (n : ℕ) (seen : List Record) → n ≡ length seen
    → sent_whole rules seen ≡ sent_part rules seen ++ header_behind n
whole_last rules n [] e =
    whole_none rules
    ∙ ap (λ (k : ℕ). header_behind k) (sym e)
    ∙ ap (λ (l : List ℕ). l ++ header_behind n) (sym (part_none rules))
whole_last rules n (q ∷ seen) e =
    whole_some rules q seen
    ∙ sym (append-nil (sent_part rules (q ∷ seen)))
    ∙ ap (λ (k : ℕ). sent_part rules (q ∷ seen) ++ header_behind k) (sym e)

-- ---- it goes on

part_onto : (rules : Rules) (seen more : List Record)
    → Starts (sent_part rules seen) (sent_part rules (seen ++ more))
unfolding sent_part
part_onto rules [] more = record { more = sent_part rules more; is = refl }
part_onto rules (q ∷ seen) more =
    let head = written_header raw_ip in
    let rest = answers_from rules (q ∷ seen) more in
    record {
      more = rest;
      is = ap (λ (l : List ℕ). head ++ l) (answers_onto rules [] (q ∷ seen) more)
          ∙ sym (append_assoc head (answers_from rules [] (q ∷ seen)) rest);
    }

whole_onto : (rules : Rules) (seen more : List Record)
    → Starts (sent_part rules seen) (sent_whole rules (seen ++ more))
unfolding sent_part sent_whole
whole_onto rules [] more = record { more = sent_whole rules more; is = refl }
whole_onto rules (q ∷ seen) more =
    let part = part_onto rules (q ∷ seen) more in
    record { more = part.more; is = part.is }

pub sent_goes_on : (rules : Rules) → GoesOn (sent_by rules)
sent_goes_on rules = record {
  none = part_none rules;
  part = part_onto rules;
  whole = whole_onto rules;
}

-- ---- what is written for a record, in two steps

pub header_fails : (rules : Rules) (n time : ℕ) (r : Record) (why : Stop)
    (Before After : List Record → Type 0) (old new : Option (List ℕ)) (o o' : ℕ)
    → ((seen : List Record) → Before seen → n ≡ length seen)
    → Prints (header_behind n) (Err why) old new o o'
    → Takes (Err why) (sent_part rules) time r Before After old new
header_fails rules n time r why Before After old new o o' counted prints = λ seen start at wrote.
    let p = sent_part rules seen ++ header_behind n in
    let front =
    prints_write (sent_part rules seen) (header_behind n) p (Err why) start old new o o' refl
    wrote.written prints in
    subst (λ (l : List ℕ). AddsFront l start new)
    (part_next rules n seen r (counted seen wrote.stands))
    (front_more p (answers_to rules seen r) start new front)

pub took : (rules : Rules) (n time : ℕ) (r : Record) (result : Result (Unit {0}) Stop)
    (Before After : List Record → Type 0) (old mid new : Option (List ℕ)) (o o' : ℕ)
    → ((seen : List Record) → Before seen → n ≡ length seen)
    → Prints (header_behind n) (Ok tt) old mid o o'
    → ((seen : List Record) → Before seen → time ≡ time_after (seen ++ r ∷ [])
    → Writes result (answers_to rules seen r) mid new)
    → ((seen : List Record) → Before seen → OnOk result (After (seen ++ r ∷ [])))
    → Takes result (sent_part rules) time r Before After old new
took rules n time r (Ok x) Before After old mid new o o' counted prints writes stays = λ seen start at wrote.
    let p = sent_part rules seen ++ header_behind n in
    let first = adds_then (sent_part rules seen) (header_behind n) start old mid wrote.written prints.0 in
    let q = answers_to rules seen r in
    record {
      stands = stays seen wrote.stands;
      written = adds_same (p ++ q) (sent_part rules (seen ++ r ∷ [])) start new
          (part_next rules n seen r (counted seen wrote.stands))
          (adds_then p q start mid new first (writes seen wrote.stands at));
    }
took rules n time r (Err why) Before After old mid new o o' counted prints writes stays = λ seen start at wrote.
    let p = sent_part rules seen ++ header_behind n in
    let first = adds_then (sent_part rules seen) (header_behind n) start old mid wrote.written prints.0 in
    let q = answers_to rules seen r in
    let whole = ap (λ (l : List ℕ). p ++ l) (append-nil q)
    ∙ part_next rules n seen r (counted seen wrote.stands) in
    subst (λ (l : List ℕ). AddsFront l start new) whole
    (front_then p q [] start mid new first (writes seen wrote.stands at))

pub took_last : (rules : Rules) (n : ℕ) (result : Result (Unit {0}) Stop)
    (Stands : List Record → Type 0) (old new : Option (List ℕ)) (o o' : ℕ)
    → ((seen : List Record) → Stands seen → n ≡ length seen)
    → Prints (header_behind n) result old new o o'
    → Finishes result (sent_by rules) Stands old new
took_last rules n result Stands old new o o' counted prints = λ seen start wrote.
    prints_write (sent_part rules seen) (header_behind n) (sent_whole rules seen) result start old new o o'
    (whole_last rules n seen (counted seen wrote.stands)) wrote.written prints
