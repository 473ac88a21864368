mod RangeWord
