use Rattle.std.proofs.Common.{◌≡◌, ap, sym, ◌∙◌}
use Rattle.std.specs.Prelude.{Result, Ok, Err, MatchResult}
use Rattle.std.specs.Option.{option_map}
use Rattle.std.specs.Result.{result_ok}
use Rattle.wire_core.specs.declared.bad.Bad.{Bad}
use Rattle.wire_core.specs.Reading.{whole_of}
use Rattle.link_framing.specs.declared.frame.Frame.{Frame}
use Rattle.link_framing.specs.declared.frame.FrameView.{FrameView}
use Rattle.link_framing.specs.Reading.{frame_at, only_frame}
use Rattle.link_framing.specs.Views.{seen}
use Rattle.link_framing.proofs.only.only_frame.Goals as goal

alone : (r : Result FrameView Bad) (read : Result Frame Bad) → MatchResult r (λ view. read ≡ Ok (seen view)) (λ bad. read ≡ Err bad) → option_map seen (result_ok r) ≡ result_ok read
alone (Ok view) read is = ap result_ok (sym is)
alone (Err bad) read is = ap result_ok (sym is)

pub returns-clause-exact : goal.returns-clause-exact
unfolding only_frame
returns-clause-exact c = ap (option_map seen) c.ok.ensures.value ∙ alone c.frame_alone.result (whole_of frame_at c.args.bytes.now) c.frame_alone.ensures.exact
