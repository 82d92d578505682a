mod WholeWords
