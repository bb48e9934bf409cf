use Rattle.std.proofs.Common.{◌∙◌, sym}
use Rattle.text_words.specs.Steps.{each_of}
use Rattle.text_words.proofs.CodecLaws.{read_stops, read_goes, read_ends}
use Rattle.request_words.specs.Specifiers.{specifier_of}
use Rattle.scenario_text.proofs.lines.fetch.specifiers_of.Goals as goal

pub returns-in-None : goal.returns-in-None
returns-in-None c =
    read_stops specifier_of c.words.specifiers c.words.words c.in-Some.word.now c.take.new.self (each_of specifier_of c.args.words) c.words.invariant c.in-Some.ensures.first (sym c.in-None.is ∙ c.in_ok-specifier_of.ensures.value)

pub words-preserved : goal.words-preserved
words-preserved c =
    read_goes specifier_of c.words.specifiers c.push_tight.new.list c.words.words c.in-Some.word.now c.take.new.self c.in-Some-2.specifier (each_of specifier_of c.args.words) c.words.invariant c.in-Some.ensures.first (sym c.in-Some-2.is ∙ c.in_ok-specifier_of.ensures.value) c.in_ok-push_tight-in-Some-2.ensures.ok

pub returns : goal.returns
returns c = read_ends specifier_of c.words.specifiers c.words.words (each_of specifier_of c.args.words) c.words.invariant c.in_default.ensures.first
