use Rattle.wire_core.specs.Laws.Steps.{laid}
use Rattle.wire_core.specs.Laws.Words.{number_laid, boolean_laid, vector_laid, rest_laid}
use Rattle.wire_core.proofs.both_ways.words_are_layouts.Goals as goal

pub returns : goal.returns
returns c = record {
  numbers = λ k. laid (λ n. number_laid {n = n} k);
  booleans = laid (λ n. boolean_laid {n = n});
  vectors = λ k. laid (λ n. vector_laid {n = n} k rest_laid);
}
