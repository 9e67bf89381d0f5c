-- Where no request was noted, a receiver that finds streams by request answers as one that doesn't.
use Rattle.std.proofs.Common.{ℕ, ◌≡◌, refl, sym, ap, subst, ◌∙◌, Bool, true, false, List, [], ◌∷◌, ◌++◌, Option, None, Some}
use Rattle.std.specs.Prelude.{if◌then◌else◌, nat_lt, length, find, Result, Err}
use Rattle.circular_buffer.specs.Buffer.{keep_last}
use Rattle.rtp_units.specs.declared.shared.RtxLine.{RtxLine}
use Rattle.rtp_units.specs.declared.shared.Fid.{Fid}
use Rattle.rtp_wire.specs.Packet.{Packet as View}
use Rattle.rtx.specs.declared.requests.Request.{Request}
use Rattle.rtx.specs.declared.requests.Association.{Association}
use Rattle.rtx.specs.declared.receiver.Original.{Original}
use Rattle.rtx.specs.declared.answers.RtxFault.{RtxFault}
use Rattle.rtx.specs.declared.answers.RtxFault.TheVariants.{Short}
use Rattle.rtx.specs.Pairs.{carries}
use Rattle.rtx.specs.Restoring.{setting, Receiving, receiving, by_stream, by_line, stream_of, found}
use Rattle.rtx.specs.Restored.{Call, Notes, Restoring, noted, requests_of, associations_by, associations_of, IsUnasked}

-- a receiver without requests and associations
abbrev plain : List RtxLine → List Fid → Bool → Receiving
plain lines fids by_request = receiving (setting lines fids by_request) [] []

same_stream : (lines : List RtxLine) (fids : List Fid) (session : ℕ) (l : RtxLine) (p : View) (o : Option ℕ) → by_stream (plain lines fids false) session l p o ≡ by_stream (plain lines fids true) session l p o
same_stream lines fids session l p None = refl
same_stream lines fids session l p (Some ssrc) = refl

same_line : (lines : List RtxLine) (fids : List Fid) (session : ℕ) (p : View) (o : Option RtxLine) → by_line (plain lines fids false) session p o ≡ by_line (plain lines fids true) session p o
same_line lines fids session p None = refl
same_line lines fids session p (Some l) = same_stream lines fids session l p (stream_of (plain lines fids true) l p.ssrc)

same_found : (lines : List RtxLine) (fids : List Fid) (session : ℕ) (p : View) → found (plain lines fids false) session p ≡ found (plain lines fids true) session p
same_found lines fids session p =
    ap (λ (r : Result Original RtxFault). if nat_lt (length p.payload) 2 then Err Short else r) (same_line lines fids session p (find (carries session p.pt) lines))

-- ---- no association is made

abbrev MakesNone : ℕ → View → Result Original RtxFault → Type 0
MakesNone session p r = associations_by [] session p r ≡ []

none_if : (session : ℕ) (p : View) (b : Bool) (x y : Result Original RtxFault) → MakesNone session p x → MakesNone session p y → MakesNone session p (if b then x else y)
none_if session p true x y f g = f
none_if session p false x y f g = g

none_by_stream : (lines : List RtxLine) (fids : List Fid) (b : Bool) (session : ℕ) (l : RtxLine) (p : View) (o : Option ℕ) → MakesNone session p (by_stream (plain lines fids b) session l p o)
none_by_stream lines fids true session l p None = refl
none_by_stream lines fids false session l p None = refl
none_by_stream lines fids b session l p (Some ssrc) = refl

none_by_line : (lines : List RtxLine) (fids : List Fid) (b : Bool) (session : ℕ) (p : View) (o : Option RtxLine) → MakesNone session p (by_line (plain lines fids b) session p o)
none_by_line lines fids b session p None = refl
none_by_line lines fids b session p (Some l) = none_by_stream lines fids b session l p (stream_of (plain lines fids b) l p.ssrc)

none_found : (lines : List RtxLine) (fids : List Fid) (b : Bool) (session : ℕ) (p : View) → MakesNone session p (found (plain lines fids b) session p)
none_found lines fids b session p =
    none_if session p (nat_lt (length p.payload) 2) (Err Short) (by_line (plain lines fids b) session p (find (carries session p.pt) lines)) refl
    (none_by_line lines fids b session p (find (carries session p.pt) lines))

abbrev IsEmpty : List Request → Type 0
IsEmpty [] = Unit {0}
IsEmpty (r ∷ rs) = ⊥

full : (rs : List Request) (r : Request) → IsEmpty (rs ++ r ∷ []) → ⊥
full [] r e = e
full (x ∷ rs) r e = e

no_requests : (calls : List Call) → noted calls ≡ [] → requests_of calls ≡ []
no_requests calls e = ap (keep_last 1024) e

none_made : (lines : List RtxLine) (fids : List Fid) (b : Bool) (calls : List Call) → noted calls ≡ [] → associations_of (setting lines fids b) calls ≡ []
none_made lines fids b [] e = refl
none_made lines fids b (Notes r ∷ before) e = absurd (full (noted before) r (subst IsEmpty (sym e) tt))
none_made lines fids b (Restoring session p ∷ before) e =
    let made : associations_of (setting lines fids b) before ≡ [] = none_made lines fids b before e in
    ap (λ (a : List Association). associations_by a session p (found (receiving (setting lines fids b) (requests_of before) a) session p)) made
    ∙ ap (λ (rs : List Request). associations_by [] session p (found (receiving (setting lines fids b) rs []) session p)) (no_requests before e)
    ∙ none_found lines fids b session p

as_plain : (lines : List RtxLine) (fids : List Fid) (b : Bool) (calls : List Call) (session : ℕ) (p : View) → noted calls ≡ []
    → found (receiving (setting lines fids b) (requests_of calls) (associations_of (setting lines fids b) calls)) session p ≡ found (plain lines fids b) session p
as_plain lines fids b calls session p e =
    ap (λ (a : List Association). found (receiving (setting lines fids b) (requests_of calls) a) session p) (none_made lines fids b calls e)
    ∙ ap (λ (rs : List Request). found (receiving (setting lines fids b) rs []) session p) (no_requests calls e)

pub unasked : IsUnasked
unasked lines fids calls session p e =
    as_plain lines fids false calls session p e ∙ same_found lines fids session p ∙ sym (as_plain lines fids true calls session p e)
