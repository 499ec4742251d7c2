-- Laws of `specs/SetUp.antt`. Assumes nothing.
use Prim.Native.Nat.{ℕ, ◌+◌, ◌<◌, ◌≤◌}
use native.Mathlib.Omega.{arith}
use mathlib.Core.Path.{◌≡◌, refl}
use mathlib.Core.List.{List, ◌∷◌, ◌++◌, append_assoc}
use lib.ListN.{length, take, drop, set}
use lib.Dec.{ltb}
use lib.Seq.{take_at}
use borrow.Author.Tests.{lt-ltb, le-ltb}
use Rattle.proxy_record.specs.State.{fresh_proxy}
use Rattle.proxy_record.specs.Words.{column_size, proxy_size, column, proxy_layout, proxy_words, zeros}
use Rattle.proxy_record.specs.Rules.{GoodProxy}
use Rattle.proxy_record.proofs.ColumnLaws.{zeros_append}
use Rattle.proxy_record.proofs.PartLaws.{laid_length}
use Rattle.proxy_record.proofs.WordsLaws.{kept_of}
use Rattle.outcome.specs.Outcome.{refused, done}
use Rattle.outcome.proofs.Split.{split}
use Rattle.proxy_record.proofs.RulesLaws.{ok_fresh, good_of}
use Rattle.writer_proxy.specs.SetUp.{set_up_proxy}

length_fresh : length (proxy_words fresh_proxy) ≡ proxy_size
length_fresh = laid_length (kept_of fresh_proxy (proxy_words fresh_proxy) (omega arith) refl)

zeros_all : zeros proxy_size ≡ 0 ∷ (0 ∷ (0 ∷ (0 ∷ (zeros column_size ++ (zeros column_size ++ zeros column_size)))))
unfolding zeros
zeros_all = rw (zeros_append column_size column_size, zeros_append column_size (column_size + column_size)) refl

-- u is what `wipe_record` left
fresh_words : (w u : List ℕ) → u ≡ zeros proxy_size ++ drop proxy_size w → set u 0 1 ≡ proxy_words fresh_proxy ++ drop proxy_size w
unfolding proxy_words proxy_layout column
fresh_words w u e = rw (e, zeros_all, append_assoc, append_assoc) refl

pub set_up_short : (w : List ℕ) → length w < proxy_size → (refused 3 ≡ (set_up_proxy w).answer) × (w ≡ (set_up_proxy w).words)
unfolding set_up_proxy
set_up_short w h = rw (lt-ltb (length w) proxy_size h) (refl, refl)

pub set_up_done : (w u : List ℕ) → proxy_size ≤ length w → u ≡ zeros proxy_size ++ drop proxy_size w → (done tt ≡ (set_up_proxy w).answer) × (set u 0 1 ≡ (set_up_proxy w).words)
unfolding set_up_proxy
set_up_done w u h e = rw (le-ltb (length w) proxy_size h, length_fresh) (refl, fresh_words w u e)

pub set_up_good : (w : List ℕ) → proxy_size ≤ length w → GoodProxy (take proxy_size (set_up_proxy w).words)
unfolding set_up_proxy
set_up_good w h =
    rw (le-ltb (length w) proxy_size h, length_fresh, take_at (proxy_words fresh_proxy) (drop proxy_size w) proxy_size length_fresh)
    (good_of (proxy_words fresh_proxy) fresh_proxy ok_fresh refl)

pub set_up_refused_same : (w : List ℕ) (k : ℕ) → (set_up_proxy w).answer ≡ refused k → (set_up_proxy w).words ≡ w
unfolding set_up_proxy
set_up_refused_same w k =
    split (ltb (length w) proxy_size)
    (λ e. rw e (λ h. refl))
    (λ e. rw e (λ h. let z : ◌≡◌ {A = ℕ} 0 1 = cc in absurd (omega arith)))
