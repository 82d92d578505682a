-- The test that a `Test` stands for.
use Rattle.tb_value.specs.See.{datum}
use Rattle.tb_filter.specs.declared.asked.Test.{Test}
use Rattle.tb_filter.specs.declared.asked.Test.TheVariants as test
use Rattle.tb_filter.specs.Promise.Filtered.{Check, is_absent, is_there, equals, less}

abbrev pub check_of : Test → Check
check_of test.IsNull = is_absent
check_of test.IsNotNull = is_there
check_of (test.Eq v) = equals (datum v)
check_of (test.Less v) = less (datum v)
