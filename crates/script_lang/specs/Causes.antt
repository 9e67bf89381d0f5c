-- The causes of bad lines as words, and reading with a first cause.
use Rattle.std.specs.Prelude.{ℕ, List, codes, Result, Ok, Err}
use Rattle.script_lang.specs.declared.fault.ScriptCause.{ScriptCause}
use Rattle.script_lang.specs.declared.fault.ScriptCause.TheVariants.{Size, Text, Word, Order, Number, Ssrc, Session, Port, Pt, Repeat, Flush, Many}

-- the program's word
abbrev pub word_of : ScriptCause → List ℕ
word_of Size = codes "size"
word_of Text = codes "text"
word_of Word = codes "word"
word_of Order = codes "order"
word_of Number = codes "number"
word_of Ssrc = codes "ssrc"
word_of Session = codes "session"
word_of Port = codes "port"
word_of Pt = codes "pt"
word_of Repeat = codes "repeat"
word_of Flush = codes "flush"
word_of Many = codes "many"

-- The first cause from the left counts.
infixl 10 ◌>>=◌
abbrev pub ◌>>=◌ : {C A B : Type 0} → Result A C → (A → Result B C) → Result B C
(Ok x) >>= f = f x
(Err cause) >>= f = Err cause
