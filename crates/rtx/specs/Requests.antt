-- Kept requests and associations.
use Rattle.std.specs.Prelude.{ℕ, ◌&&◌, not, nat_eq, nat_lt, if◌then◌else◌, Bool, List, [], ◌∷◌, ◌++◌, length, find, Option, option_map}
use Rattle.rtx.specs.declared.requests.Request.{Request}
use Rattle.rtx.specs.declared.requests.Association.{Association}

abbrev pub request : ℕ → ℕ → ℕ → Request
request session ssrc seq = record { session = session; ssrc = ssrc; seq = seq }

abbrev pub association : ℕ → ℕ → ℕ → Association
association session rtx_ssrc ssrc = record { session = session; rtx_ssrc = rtx_ssrc; ssrc = ssrc }

-- The request is for this number in this session.
abbrev pub asks : ℕ → ℕ → Request → Bool
asks session seq r = nat_eq r.session session && nat_eq r.seq seq

abbrev pub asks_of_other : ℕ → ℕ → ℕ → Request → Bool
asks_of_other session seq ssrc r = asks session seq r && not (nat_eq r.ssrc ssrc)

-- of the requests, the oldest first, the stream of the oldest for this number
abbrev pub oldest : List Request → ℕ → ℕ → Option ℕ
oldest requests session seq = option_map (λ r. r.ssrc) (find (asks session seq) requests)

-- the stream of the oldest for this number that is of another stream
abbrev pub oldest_other : List Request → ℕ → ℕ → ℕ → Option ℕ
oldest_other requests session seq ssrc = option_map (λ r. r.ssrc) (find (asks_of_other session seq ssrc) requests)

abbrev pub is_of : ℕ → ℕ → Association → Bool
is_of session rtx_ssrc a = nat_eq a.session session && nat_eq a.rtx_ssrc rtx_ssrc

-- the stream that a retransmission stream is associated with
abbrev pub associated : List Association → ℕ → ℕ → Option ℕ
associated associations session rtx_ssrc = option_map (λ a. a.ssrc) (find (is_of session rtx_ssrc) associations)

-- An association is kept where fewer than 64 are.
abbrev pub associations_next : List Association → Association → List Association
associations_next associations a = if nat_lt (length associations) 64 then associations ++ a ∷ [] else associations
