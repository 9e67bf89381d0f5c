-- What an `m=` line says.
use Rattle.std.specs.Prelude.{ℕ, List, [], ◌∷◌, ◌++◌, codes, fold, map, Bool, not, bytes_eq, ◌==◌}
use Rattle.std.specs.Prelude.{◌&&◌, ◌||◌, option_map, is_some, Option, Some, None, if◌then◌else◌}
use Rattle.std.specs.List.{list_all, list_any, filter_map}
use Rattle.std.specs.Borrow.{Bor}
use Rattle.sdp_profile.specs.declared.media.MediaLine.{MediaLine}
use Rattle.sdp_profile.specs.Text.{less_end}
use Rattle.sdp_profile.specs.Numbers.{number_in, type_in}

-- a port, a transport, and words for the payload types
pub record Media : Type 0 where
  pub port : ℕ
  pub transport : List ℕ
  pub types : List (List ℕ)

-- PORT or PORT/1
abbrev pub port_in : List ℕ → Option ℕ
port_in word = number_in 0 65535 (less_end (codes "/1") word)

-- MEDIA PORT TRANSPORT TYPE ..
abbrev pub media_of_words : List (List ℕ) → Option Media
media_of_words (kind ∷ port ∷ transport ∷ type ∷ types) =
    option_map (λ p. record { port = p; transport = transport; types = type ∷ types })
    (port_in port)
media_of_words words = None

abbrev pub is_rtp : List ℕ → Bool
is_rtp transport = bytes_eq transport (codes "RTP/AVP") || bytes_eq transport (codes "RTP/AVPF")

-- the section is one of this profile, and not switched off
abbrev pub is_kept : Media → Bool
is_kept m = not (m.port == 0) && is_rtp m.transport

-- ---- the payload types

abbrev pub holds : List ℕ → ℕ → Bool
holds types type = list_any (λ t. t == type) types

-- a payload type behind others: a repeated one is left out
abbrev pub with_type : List ℕ → ℕ → List ℕ
with_type types type = if holds types type then types else types ++ type ∷ []

-- the payload types in order, each once, where every word is one
unfoldable pub types_of : List (List ℕ) → Option (List ℕ)
types_of words =
    if list_all (λ word. is_some (type_in word)) words
    then Some (fold with_type [] (filter_map type_in words))
    else None

-- ---- a line as the code holds it

abbrev pub texts : List (Bor (List ℕ)) → List (List ℕ)
texts words = map (λ word. word.now) words

abbrev pub media_in : MediaLine → Media
media_in m = record { port = m.port; transport = m.transport.now; types = texts m.types.now }
