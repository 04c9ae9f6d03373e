-- The grammar of a remark, from after its word `note`: words and inner remarks, up to its closing bracket.
use Rattle.std.specs.Prelude.{◌≡◌, ℕ, ◌-◌, ◌<◌, List, Ok, Err, codes, Result, ◌≢◌}
use Rattle.cam.specs.declared.fault.Reason.TheVariants.{RemarkTooDeep}
use Rattle.cam.specs.declared.fault.Layer.TheVariants.{Forms}
use Rattle.cam.specs.declared.fault.Fault.{Fault}
use Rattle.words.specs.declared.token.Kind.TheVariants.{Open, Close, Word}
use Rattle.words.specs.Lexing.{Token, Lexed}
use Rattle.words.specs.Forms.{not_wanted, WordNext}

abbrev pub remark_too_deep : ℕ → Fault
remark_too_deep p = record { reason = RemarkTooDeep; layer = Forms; place = p }

-- Remark text n a r: inside a remark in which n more may open, each in the one before, what follows at `a` gives r:
-- the place after the remark's closing bracket, or a fault
pub data Remark (text : List ℕ) : ℕ → ℕ → Result ℕ Fault → Type 0 where
  shut : {n a : ℕ} {t : Token} → Lexed text a (Ok t) → t.kind ≡ Close → Remark text n a (Ok t.to)
  word : {n a : ℕ} {t : Token} {r : Result ℕ Fault} → Lexed text a (Ok t) → t.kind ≡ Word → Remark text n t.to r → Remark text n a r
  nest : {n a i e : ℕ} {t : Token} {r : Result ℕ Fault} → Lexed text a (Ok t) → t.kind ≡ Open → 0 < n → WordNext (codes "note") text t.to (Ok i) → Remark text (n - 1) i (Ok e) → Remark text n e r → Remark text n a r
  -- the faults
  lexed : {n a : ℕ} {f : Fault} → Lexed text a (Err f) → Remark text n a (Err f)
  other : {n a : ℕ} {t : Token} → Lexed text a (Ok t) → (t.kind ≢ Close) → (t.kind ≢ Word) → (t.kind ≢ Open) → Remark text n a (Err (not_wanted t.from))
  too_deep : {n a : ℕ} {t : Token} → Lexed text a (Ok t) → t.kind ≡ Open → n ≡ 0 → Remark text n a (Err (remark_too_deep t.from))
  no_note : {n a : ℕ} {t : Token} {f : Fault} → Lexed text a (Ok t) → t.kind ≡ Open → 0 < n → WordNext (codes "note") text t.to (Err f) → Remark text n a (Err f)
  inner : {n a i : ℕ} {t : Token} {f : Fault} → Lexed text a (Ok t) → t.kind ≡ Open → 0 < n → WordNext (codes "note") text t.to (Ok i) → Remark text (n - 1) i (Err f) → Remark text n a (Err f)

-- an outermost remark has depth 1, and remarks nest to a depth of 8
abbrev pub Outermost : List ℕ → ℕ → Result ℕ Fault → Type 0
Outermost text = Remark text 7
