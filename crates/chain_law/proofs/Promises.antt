-- A live run from the first state keeps its promises at all its places.
use Rattle.std.proofs.Common.{ℕ, All, List}
use Rattle.pixel_layout.specs.declared.Parity.{Parity}
use Rattle.capture_desc.specs.declared.desc.Desc.{Desc}
use Rattle.picture_law.specs.Pictures.{Picture}
use Rattle.chain_model.specs.Chains.{Chain, IsChain, IsSoundChain}
use Rattle.chain_model.specs.Live.{IsLiveStep, LiveStep, first_live, live_at}
use Rattle.chain_model.proofs.Live.{IsLive-at, LiveInside-IsLive}
use Rattle.chain_law.specs.Pictures.{IsLiveCapture, IsSignalled}
use Rattle.chain_law.specs.Runs.{ArrivesUpTo, IsPartPicture, LiveRunsKeepPromises}
use Rattle.chain_law.proofs.InTime.{live_signals_in_time}
use Rattle.chain_law.proofs.Shown.{live_shows_no_fault, live_shows_picture, live_tells_field}

module _ (chain : Chain) (fill : ℕ) (steps : List LiveStep) (is : IsChain chain) (sound : IsSoundChain chain)
    (made : All (IsLiveStep chain) steps) where
  capture : (part : ℕ) (d : Desc) (field : Parity) (picture : Picture) → IsPartPicture chain part d field picture →
      IsLiveCapture chain part d field picture steps
  capture part d field picture of =
      record {
        is_chain = is;
        sound = sound;
        is_part = of.is_part;
        fragment = of.fragment;
        described = of.described;
        pictured = of.pictured;
        made = made;
      }

  signalled : (part : ℕ) (d : Desc) (field : Parity) (picture : Picture) (j k : ℕ) → IsPartPicture chain part d field picture →
      ArrivesUpTo chain part d field picture fill steps j k → IsSignalled chain part d field picture fill steps j k
  signalled part d field picture j k of arrival =
      record {
        capture = capture part d field picture of;
        signal = arrival.signal;
        arrives = arrival.arrives;
      }

pub live_runs_keep_promises : LiveRunsKeepPromises
live_runs_keep_promises chain fill steps is sound made =
    record {
      inside =
          λ place. LiveInside-IsLive chain is sound (live_at chain (first_live chain fill) steps place)
          (IsLive-at chain is sound fill steps place made);
      shown =
          λ part d field picture j k of arrival.
          let s = signalled chain fill steps is sound made part d field picture j k of arrival in
          record {
            memory = live_shows_picture chain part d field picture fill steps j k s;
            told = live_tells_field chain part d field picture fill steps j k s;
          };
      quiet =
          λ part d field picture j k i of arrival.
          live_shows_no_fault chain part d field picture fill steps j k i
          (signalled chain fill steps is sound made part d field picture j k of arrival);
      in_time =
          λ part d field picture j i l of.
          live_signals_in_time chain part d field picture fill steps j i l (capture chain fill steps is sound made part d field picture of);
    }
